-- `answers::capacity_out` meets its contract: the code's order is the definition's.
-- Assumes nothing.
use mathlib.Core.Path.{refl}
use Rattle.answers.proofs.capacity_out.Goals as goal

pub returns : goal.returns
returns c = refl
