-- `encoding::four_at` meets its contract: four digits in base 256.
-- Assumes nothing.
use native.Mathlib.Omega.{arith}
use Rattle.encoding.proofs.Bytes.{four_bytes_law}
use Rattle.encoding.proofs.four_at.Goals as goal

pub returns : goal.returns
returns c = let a = c.args in omega (arith, four_bytes_law a.b.now a.i)
