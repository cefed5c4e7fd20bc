-- `encoding::two_at` meets its contract: two digits in base 256.
-- Assumes nothing.
use native.Mathlib.Omega.{arith}
use Rattle.encoding.proofs.Bytes.{two_bytes_law}
use Rattle.encoding.proofs.two_at.Goals as goal

pub returns : goal.returns
returns c = let a = c.args in omega (arith, two_bytes_law a.b.now a.i)
