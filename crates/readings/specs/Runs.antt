-- How days stand in a series. A run is the days whose readings a series holds, one day after the other: those of a
-- charge year, or those of its reference period. A run's days d and a day's positions p count from 0. How a day is laid
-- out is said here alone: each day has 96 readings, position p for quarter p, but for the two Sundays on which the
-- clock is changed. Rules 2.4, 4.1 and 6.1.
use Rattle.std.specs.Prelude.{cond, List, ℕ, ◌+◌, ◌-◌, ltb, eqb, get_or}
use Rattle.ranges.specs.Limits.{outside}
use Rattle.ranges.specs.Ranges.{sum_over}
use Rattle.answers.specs.Ruling.{day_quarters}
use Rattle.dates.specs.Dates.{year_days, last_sunday}
use Rattle.periods.specs.Period.{period_days, october_sunday, march_sunday}
use Rattle.readings.specs.declared.Run.{Run}
use Rattle.readings.specs.declared.Run.TheVariants.{Year, Period}
use Rattle.readings.specs.declared.Change.{Change}
use Rattle.readings.specs.declared.DaySpan.{DaySpan}

-- how many days a run has
unfoldable pub run_days : Run → ℕ
run_days (Year y) = year_days y
run_days (Period y) = period_days y

-- a run's two Sundays on which the clock is changed, as days from 0: the short one is the last in March, the long one
-- the last in October
unfoldable pub change_of : Run → Change
change_of (Year y) = record { short = last_sunday y 3 - 1; long = last_sunday y 10 - 1 }
change_of (Period y) = record { short = march_sunday y - 1; long = october_sunday y - 1 }

-- how many readings the short Sunday has, an hour less than other days; and the long one, an hour more: no day has more
abbrev pub least_readings : ℕ
least_readings = 92

abbrev pub most_readings : ℕ
most_readings = 100

-- how many readings day d has where these are the two Sundays; and how many stand before it
unfoldable pub len_by : Change → ℕ → ℕ
len_by change d = cond (eqb d change.short) least_readings (cond (eqb d change.long) most_readings day_quarters)

unfoldable pub start_by : Change → ℕ → ℕ
start_by change d = sum_over (len_by change) d

-- the same of a run: how many readings day d has, and how many stand before it, so the place, from 0, of its first
abbrev pub day_len : Run → ℕ → ℕ
day_len run d = len_by (change_of run) d

abbrev pub day_start : Run → ℕ → ℕ
day_start run d = start_by (change_of run) d

-- The quarter, from 0, that position p stands for on a day of n readings. On the short Sunday quarters 8 to 11 are left
-- out: from position 8 on each stands for the quarter four later. On the long one they come twice: from position 12 on
-- each stands for the quarter four earlier. (A position behind the short Sunday's last stands for itself.)
unfoldable pub quarter_in : ℕ → ℕ → ℕ
quarter_in n p =
    cond (eqb n least_readings) (cond (outside 8 91 p) p (p + 4))
    (cond (eqb n most_readings) (cond (ltb p 12) p (p - 4))
    p)

-- the one that position p of a run's day d stands for
abbrev pub quarter_of : Run → ℕ → ℕ → ℕ
quarter_of run d p = quarter_in (day_len run d) p

-- where day d stands in a series
abbrev pub span_by : Change → ℕ → DaySpan
span_by change d = record { start = start_by change d; len = len_by change d }

abbrev pub day_span : Run → ℕ → DaySpan
day_span run d = span_by (change_of run) d

-- how many readings a whole run has
unfoldable pub run_readings : Run → ℕ
run_readings run = day_start run (run_days run)

-- the reading at position p of day d of a series; 0 past the series' end
abbrev pub reading_by : Change → List ℕ → ℕ → ℕ → ℕ
reading_by change xs d p = get_or xs (start_by change d + p) 0

abbrev pub reading : Run → List ℕ → ℕ → ℕ → ℕ
reading run xs d p = reading_by (change_of run) xs d p
