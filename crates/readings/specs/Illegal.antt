-- Legal and illegal readings, and the first illegal one, stated by the orders ≤ and < alone: of a day's readings that
-- are given alone, and of the days of a run's series. Days d and positions p count from 0. Rules 2.1 and 8.4.
use Rattle.std.specs.Prelude.{ℕ, ◌≤◌, ◌<◌, ◌≡◌, List, length, get_or}
use Rattle.readings.specs.declared.Run.{Run}
use Rattle.readings.specs.Runs.{run_days, day_len, run_readings, reading}

-- a day: no reading is above the limit; some reading is; the one at position q is, and none before it
module _ (limit : ℕ) (day : List ℕ) where
  abbrev pub AllLegal : Type 0
  AllLegal = (p : ℕ) → p < length day → get_or day p 0 ≤ limit

  pub record SomeIllegal : Type 0 where
    pub at : ℕ
    pub at_in : at < length day
    pub above : limit < get_or day at 0

  pub record FirstIllegal (q : ℕ) : Type 0 where
    pub at_in : q < length day
    pub above : limit < get_or day q 0
    pub before : (p : ℕ) → p < q → get_or day p 0 ≤ limit

-- a run's series: the same
module _ (run : Run) (limit : ℕ) (xs : List ℕ) where
  abbrev pub AllLegalIn : Type 0
  AllLegalIn = (d p : ℕ) → d < run_days run → p < day_len run d → reading run xs d p ≤ limit

  pub record SomeIllegalIn : Type 0 where
    pub on : ℕ
    pub at : ℕ
    pub on_in : on < run_days run
    pub at_in : at < day_len run on
    pub above : limit < reading run xs on at

  -- the first: on an earlier day there is none, nor on the same day at an earlier position
  pub record FirstIllegalIn (d q : ℕ) : Type 0 where
    pub on_in : d < run_days run
    pub at_in : q < day_len run d
    pub above : limit < reading run xs d q
    pub days_before_law : (e p : ℕ) → e < d → p < day_len run e → reading run xs e p ≤ limit
    pub before : (p : ℕ) → p < q → reading run xs d p ≤ limit

  -- a complete legal series: as many readings as the run has, and no illegal one
  pub record LegalSeries : Type 0 where
    pub long : length xs ≡ run_readings run
    pub legal : AllLegalIn
