-- `readings::four_before` meets its contract: four readings behind the Sunday, none up to it.
-- Assumes nothing.
use native.Mathlib.Omega.{arith}
use borrow.Author.Tests.{lt-ltb, le-ltb}
use Rattle.readings.proofs.four_before.Goals as goal

pub returns-then-sunday-d : goal.returns-then-sunday-d
returns-then-sunday-d c = (simp (lt-ltb _ _ c.if-sunday-d.true), omega arith)

pub returns-else-sunday-d : goal.returns-else-sunday-d
returns-else-sunday-d c = (simp (le-ltb c.args.sunday c.args.d (omega arith)), omega arith)
