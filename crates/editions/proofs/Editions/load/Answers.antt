-- `Editions::load` meets its contract, a law for each return.
-- Assumes nothing.
use mathlib.Core.Path.{◌≡◌}
use mathlib.Core.Bool.{Bool, ◌||◌}
use native.Mathlib.Omega.{arith}
use Rattle.editions.proofs.Refused.{said_full, said_refused, said_loaded}
use Rattle.editions.proofs.Editions.load.Goals as goal

-- what both tests answered, as the definitions have it
both : {a b p q r : Bool} → p ≡ a → q ≡ b → (p || q) ≡ r → (a || b) ≡ r
both e f g = rw (e, f) at g

pub returns-then-bad_edition-do_overlap : goal.returns-then-bad_edition-do_overlap
returns-then-bad_edition-do_overlap c =
    said_refused _ _ (omega arith) (both c.bad_edition.ensures c.do_overlap.ensures c.if-bad_edition-do_overlap.true)

pub returns : goal.returns
returns c =
    rw c.from-n.ensures
    (said_loaded _ _ (omega arith) (both c.bad_edition.ensures c.do_overlap.ensures c.if-bad_edition-do_overlap.false))

pub returns-then-n-ge-EDITIONS_MOST : goal.returns-then-n-ge-EDITIONS_MOST
returns-then-n-ge-EDITIONS_MOST c = said_full _ _ (omega arith)
