-- How days are laid out, in plain words of dates and quarters: what is proved of specs/Runs (proofs/Plain). Days d,
-- positions p and quarters q count from 0, the days of a year from 1. Rules 2.4, 4.1 and 6.1.
use Rattle.std.specs.Prelude.{◌≡◌, ◌↔◌, ◌⊎◌, ℕ, ◌+◌, ◌*◌, ◌≤◌, ◌<◌}
use Rattle.dates.specs.Sundays.{IsLastSunday}
use Rattle.periods.specs.Period.{period_date}
use Rattle.readings.specs.declared.Run.{Run}
use Rattle.readings.specs.declared.Run.TheVariants.{Year, Period}
use Rattle.readings.specs.Runs.{run_days, change_of, day_len, day_start, quarter_in, run_readings}

-- the date of a run's day d: its calendar year, and its day of that year
abbrev pub year_on : Run → ℕ → ℕ
year_on (Year y) d = y
year_on (Period y) d = (period_date y (d + 1)).year

abbrev pub day_on : Run → ℕ → ℕ
day_on (Year y) d = d + 1
day_on (Period y) d = (period_date y (d + 1)).day

-- a day has 92 readings exactly where it is the last Sunday of its year's March, 100 where it is that of October, and
-- else 96; a run has one such day of each, and so 96 readings for each of its days. Each day starts where the one
-- before ends. This holds for every year number.
pub record PlainDays (run : Run) : Type 0 where
  pub short : (d : ℕ) → d < run_days run → (day_len run d ≡ 92) ↔ IsLastSunday (year_on run d) 3 (day_on run d)
  pub long : (d : ℕ) → d < run_days run → (day_len run d ≡ 100) ↔ IsLastSunday (year_on run d) 10 (day_on run d)
  pub usual : (d : ℕ) → (day_len run d ≡ 92 → ⊥) → (day_len run d ≡ 100 → ⊥) → day_len run d ≡ 96
  pub has_short : ((change_of run).short < run_days run) × (day_len run (change_of run).short ≡ 92)
  pub has_long : ((change_of run).long < run_days run) × (day_len run (change_of run).long ≡ 100)
  pub keeps_length : run_readings run ≡ 96 * run_days run
  pub from_none : day_start run 0 ≡ 0
  pub next_start : (d : ℕ) → day_start run (d + 1) ≡ day_start run d + day_len run d

-- of a day of n readings: exactly one position stands for quarter q; exactly two do; none does
pub record OneFor (n q : ℕ) : Type 0 where
  pub at : ℕ
  pub at_in : at < n
  pub is : quarter_in n at ≡ q
  pub only : (p : ℕ) → p < n → quarter_in n p ≡ q → p ≡ at

pub record TwoFor (n q : ℕ) : Type 0 where
  pub first : ℕ
  pub second : ℕ
  pub order : first < second
  pub second_in : second < n
  pub first_is : quarter_in n first ≡ q
  pub second_is : quarter_in n second ≡ q
  pub only : (p : ℕ) → p < n → quarter_in n p ≡ q → (p ≡ first) ⊎ (p ≡ second)

abbrev pub NoneFor : ℕ → ℕ → Type 0
NoneFor n q = (p : ℕ) → p < n → quarter_in n p ≡ q → ⊥

-- quarter q is none of the hour from 2:00 to 3:00
abbrev pub Away : ℕ → Type 0
Away q = 8 ≤ q → q < 12 → ⊥

-- That hour is left out on the short Sunday and comes twice on the long one; every other quarter stands once. And
-- quarters stand as time goes: each position's is later than that of the position before, but for position 12 of the
-- long Sunday, with which the hour begins anew.
pub record EachQuarter : Type 0 where
  pub usual : (q : ℕ) → q < 96 → OneFor 96 q
  pub short_none : (q : ℕ) → 8 ≤ q → q < 12 → NoneFor 92 q
  pub short_else : (q : ℕ) → q < 96 → Away q → OneFor 92 q
  pub long_two : (q : ℕ) → 8 ≤ q → q < 12 → TwoFor 100 q
  pub long_else : (q : ℕ) → q < 96 → Away q → OneFor 100 q
  pub usual_order : (p : ℕ) → p < 95 → quarter_in 96 p < quarter_in 96 (p + 1)
  pub short_order : (p : ℕ) → p < 91 → quarter_in 92 p < quarter_in 92 (p + 1)
  pub long_order : (p : ℕ) → p < 99 → (p ≡ 11 → ⊥) → quarter_in 100 p < quarter_in 100 (p + 1)
  pub long_anew : quarter_in 100 12 ≡ 8
