-- Nothing else meets the promise of `check_next` (Rule 13.1).
-- Assumes nothing.
use mathlib.Core.Path.{◌≡◌, refl}
use mathlib.Core.Bool.{cond}
use lib.Dec.{eqb}
use lib.ListN.{get_or}
use Rattle.std.specs.Prelude.{Result, Ok, Err, ⊤}
use Rattle.answers.specs.Said.{Said}
use Rattle.answers.proofs.Laws.{back_again}
use Rattle.legal_readings.specs.declared.Unfit.{Unfit}
use Rattle.legal_readings.specs.declared.Unfit.TheVariants.{DayOut, WrongLength, BadReading}
use Rattle.legal_readings.specs.Answers.{said_of_next}

-- what the call hands back, from what it says
abbrev next_back : Said → Result ⊤ Unfit
next_back a =
    cond (eqb a.number 0) (Ok tt)
    (cond (eqb a.number 13) (Err DayOut)
    (cond (eqb a.number 4) (Err WrongLength)
    (Err (BadReading (record { day = get_or a.figures 0 0; position = get_or a.figures 1 0 })))))

back : (r : Result ⊤ Unfit) → next_back (said_of_next r) ≡ r
back (Ok done) = refl
back (Err DayOut) = refl
back (Err WrongLength) = refl
back (Err (BadReading place)) = refl

pub next_only : {x : Said} {r s : Result ⊤ Unfit} → said_of_next r ≡ x → said_of_next s ≡ x → r ≡ s
next_only = back_again said_of_next next_back back
