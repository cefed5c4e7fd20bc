-- `customer_text::answer` meets its contract, a stage for each return.
-- Assumes nothing.
use native.Mathlib.Omega.{arith}
use Rattle.decision_numbers.proofs.Line.{decision_small}
use Rattle.customer_text.proofs.answer.Goals as goal

pub returns-in-Going : goal.returns-in-Going
returns-in-Going c = rw c.in-Going.is (c.only.ensures, rw c.only.ensures (omega arith))

pub returns-in-Refused : goal.returns-in-Refused
returns-in-Refused c = rw (c.in-Refused.is, ← c.from.ensures) (c.only-in-Refused.ensures, rw c.only-in-Refused.ensures (omega arith))

pub returns-in-BadReading : goal.returns-in-BadReading
returns-in-BadReading c = rw c.in-BadReading.is (c.with_place.ensures, rw c.with_place.ensures (omega arith))

pub returns-in-Complete : goal.returns-in-Complete
returns-in-Complete c =
    rw (c.in-Complete.is, ← c.close.ensures)
    (c.of_decision.ensures, rw c.of_decision.ensures (decision_small c.close.result).0)
