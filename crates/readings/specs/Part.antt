-- The part of a series xs that is handed out for one day, which counts from 1: its readings, or none for a charge year
-- that would be answered 1, for day 0, for a day that the run does not have, and for a day of which the series does not
-- have all readings. Nothing is refused. Rule 9.2.
use Rattle.std.specs.Prelude.{Bool, cond, ◌||◌, List, [], ℕ, ◌-◌, ltb, eqb, length, take, drop}
use Rattle.answers.specs.declared.Edition.{Edition}
use Rattle.answers.specs.Ruling.{lacks_year}
use Rattle.readings.specs.declared.Run.{Run}
use Rattle.readings.specs.declared.Run.TheVariants.{Year, Period}
use Rattle.readings.specs.Runs.{run_days, day_len, day_start}

-- the charge year that a run belongs to
abbrev pub run_year : Run → ℕ
run_year (Year y) = y
run_year (Period y) = y

-- does the run not have the day?
unfoldable pub no_day : Run → ℕ → Bool
no_day run day = eqb day 0 || ltb (run_days run) day

-- the part of a series that is a day of the run
unfoldable pub run_part : Run → List ℕ → ℕ → List ℕ
run_part run xs day =
    cond (no_day run day || ltb (length xs) (day_start run day)) []
    (take (day_len run (day - 1)) (drop (day_start run (day - 1)) xs))

-- what is handed out by an edition: that part, in a charge year for which the edition holds
unfoldable pub day_part : Edition → Run → List ℕ → ℕ → List ℕ
day_part ed run xs day = cond (lacks_year ed (run_year run)) [] (run_part run xs day)
