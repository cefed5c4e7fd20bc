-- Nothing else meets the promises of a decision: what an answer says fixes the answer (Rule 13.1).
-- Assumes nothing.
use mathlib.Core.Path.{◌≡◌, refl}
use mathlib.Core.Bool.{cond}
use Prim.Native.Nat.{ℕ, ◌+◌}
use lib.Dec.{eqb}
use lib.ListN.{length, get_or}
use Rattle.std.proofs.Common.{Result, Ok, Err}
use Rattle.answers.specs.Said.{Said}
use Rattle.answers.proofs.Laws.{back_again}
use Rattle.tariff.specs.declared.Plain.{Plain}
use Rattle.tariff.specs.declared.Peaks.{Peaks}
use Rattle.tariff.specs.declared.TwoCharges.{TwoCharges}
use Rattle.tariff.specs.declared.PricesOut.{PricesOut}
use Rattle.tariff.specs.declared.Decision.{Decision}
use Rattle.tariff.specs.declared.Decision.TheVariants.{Accepted, Eligible, Taken, YearOut, LevelOut, BadHolidays, WrongLength, BadReading, PriceOut, NoWindow, ShareShort, MoveShort, ReductionShort, Malformed, DayOut}
use Rattle.tariff.specs.Answers.{said_of, said_of_general, said_of_charges}

-- figure i of an answer, from 0, and the figures from figure i on
abbrev figure : Said → ℕ → ℕ
figure a i = get_or a.figures i 0

abbrev plain_from : Said → ℕ → Plain
plain_from a i = record { general = figure a i; peak = figure a (1 + i); sum = figure a (2 + i) }

abbrev peaks_from : Said → ℕ → Peaks
peaks_from a i = record { plain = plain_from a i; high = figure a (3 + i); day = figure a (4 + i); quarter = figure a (5 + i) }

-- an answer, back from what it says. 0 without a figure is a day that is taken, 0 with one figure is a yes, and 0 with
-- a charge has seven.
abbrev decision_back : Said → Decision
decision_back a =
    cond (eqb a.number 0)
    (cond (eqb (length a.figures) 0) Taken
    (cond (eqb (length a.figures) 1) Eligible
    (Accepted (record { charge = figure a 0; peaks = peaks_from a 1 }))))
    (cond (eqb a.number 1) YearOut
    (cond (eqb a.number 2) LevelOut
    (cond (eqb a.number 3) BadHolidays
    (cond (eqb a.number 4) WrongLength
    (cond (eqb a.number 5) (BadReading (record { day = figure a 0; position = figure a 1 }))
    (cond (eqb a.number 6) PriceOut
    (cond (eqb a.number 8) (NoWindow (plain_from a 0))
    (cond (eqb a.number 9) (ShareShort (peaks_from a 0))
    (cond (eqb a.number 10) (MoveShort (peaks_from a 0))
    (cond (eqb a.number 11) (ReductionShort (peaks_from a 0))
    (cond (eqb a.number 12) Malformed DayOut)))))))))))

back : (d : Decision) → decision_back (said_of d) ≡ d
back (Accepted a) = refl
back Eligible = refl
back Taken = refl
back YearOut = refl
back LevelOut = refl
back BadHolidays = refl
back WrongLength = refl
back (BadReading place) = refl
back PriceOut = refl
back (NoWindow a) = refl
back (ShareShort a) = refl
back (MoveShort a) = refl
back (ReductionShort a) = refl
back Malformed = refl
back DayOut = refl

-- nothing else meets a promise of `eligible`, `charge`, `judge`
pub decision_only : {x : Said} {r s : Decision} → said_of r ≡ x → said_of s ≡ x → r ≡ s
decision_only = back_again said_of decision_back back

-- nor one of the calls for the charges alone
abbrev refused_price : PricesOut
refused_price = record {}

abbrev general_back : Said → Result ℕ PricesOut
general_back a = cond (eqb a.number 0) (Ok (figure a 0)) (Err refused_price)

general_back_law : (d : Result ℕ PricesOut) → general_back (said_of_general d) ≡ d
general_back_law (Ok g) = refl
general_back_law (Err _) = refl

pub general_only : {x : Said} {r s : Result ℕ PricesOut} → said_of_general r ≡ x → said_of_general s ≡ x → r ≡ s
general_only = back_again said_of_general general_back general_back_law

abbrev charges_back : Said → Result TwoCharges PricesOut
charges_back a = cond (eqb a.number 0) (Ok (record { charge = figure a 0; general = figure a 1 })) (Err refused_price)

charges_back_law : (d : Result TwoCharges PricesOut) → charges_back (said_of_charges d) ≡ d
charges_back_law (Ok a) = refl
charges_back_law (Err _) = refl

pub charges_only : {x : Said} {r s : Result TwoCharges PricesOut} → said_of_charges r ≡ x → said_of_charges s ≡ x → r ≡ s
charges_only = back_again said_of_charges charges_back charges_back_law
