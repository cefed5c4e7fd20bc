-- What a day is answered; and an answer that is not 5: where the machine stands after it.
-- Assumes nothing.
use mathlib.Core.Path.{◌≡◌, refl}
use mathlib.Core.Bool.{Bool, true, false, cond, not}
use mathlib.Core.List.{List}
use Prim.Native.Nat.{ℕ, ◌+◌}
use lib.Dec.{leb, ltb, eqb}
use lib.ListN.{length}
use Rattle.answers.specs.Ruling.{customer_most}
use Rattle.answers.specs.Said.{Said, only, bad_place}
use Rattle.answers.specs.declared.Place.{Place}
use Rattle.readings.specs.declared.Run.TheVariants.{Year}
use Rattle.readings.specs.Runs.{run_days, day_len}
use Rattle.readings.specs.Legal.{first_above}
use Rattle.readings.specs.Days.{next_answer}
use Rattle.tariff.specs.declared.Decision.{Decision}
use Rattle.tariff.specs.declared.Decision.TheVariants.{Accepted, Eligible, Taken, YearOut, LevelOut, BadHolidays, WrongLength, BadReading, PriceOut, NoWindow, ShareShort, MoveShort, ReductionShort, Malformed, DayOut}
use Rattle.tariff.specs.Answers.{said_of}
use Rattle.customer_days.specs.declared.Customer.{Customer}
use Rattle.customer_days.specs.Days.{overfull, customer_day_answer}
use Rattle.fields.specs.declared.Stage.{Stage}
use Rattle.fields.specs.Stages.{stage_of}

-- what a day is answered: 13, 4, 5 with its place, or 0 without figures
module _ (P : Said → Type 0) (thirteen : P (only 13)) (four : P (only 4)) (five : (place : Place) → P (bad_place place)) (taken : P (only 0)) where
  by_tests :
      (over out wrong bad : Bool) (place : Place)
      → P (cond over (only 13) (cond out (only 13) (cond wrong (only 4) (cond bad (bad_place place) (only 0)))))
  by_tests true out wrong bad place = thirteen
  by_tests false true wrong bad place = thirteen
  by_tests false false true bad place = four
  by_tests false false false true place = five place
  by_tests false false false false place = taken

  pub day_cases : (c : Customer) (day : List ℕ) → P (customer_day_answer c day)
  unfolding customer_day_answer next_answer
  day_cases c day =
      let run = Year c.terms.rates.year in
      let first = first_above customer_most day in
      by_tests (overfull c) (leb (run_days run) c.seen) (not (eqb (length day) (day_len run c.seen))) (ltb first (length day))
      (record { day = c.seen + 1; position = first })

-- only 5 hands its place on
pub stage_number : (d : Decision) → ((place : Place) → d ≡ BadReading place → ⊥) → Stage.Refused (said_of d).number ≡ stage_of (said_of d)
unfolding stage_of
stage_number (Accepted a) n = refl
stage_number Eligible n = refl
stage_number Taken n = refl
stage_number YearOut n = refl
stage_number LevelOut n = refl
stage_number BadHolidays n = refl
stage_number WrongLength n = refl
stage_number (BadReading place) n = absurd (n place refl)
stage_number PriceOut n = refl
stage_number (NoWindow a) n = refl
stage_number (ShareShort a) n = refl
stage_number (MoveShort a) n = refl
stage_number (ReductionShort a) n = refl
stage_number Malformed n = refl
stage_number DayOut n = refl
