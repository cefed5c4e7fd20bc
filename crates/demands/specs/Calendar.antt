-- Which days carry windows, and why the others are free, said by ≤, < and ≡ and not by the tests that the calendar
-- computes with, nor by their order. Weekdays count from 0 (Monday) to 6 (Sunday); year y, the listed days hs, day d,
-- from 1. Rules 3.3 to 3.5.
use Rattle.std.specs.Prelude.{◌≡◌, true, false, ◌↔◌, ◌⊎◌, List, [], ◌∷◌, ℕ, ◌+◌, ◌-◌, ◌≤◌, ◌<◌}
use Rattle.dates.specs.Dates.{year_days, weekday_of}
use Rattle.editions.specs.declared.Editions.{Editions}
use Rattle.holidays.specs.Holidays.{listed}
use Rattle.demands.specs.Module.{Module}

-- free by none of the first three lines of Rule 3.3: one of Monday to Friday, not listed, after 1 January, and more
-- than seven days before the year's last day, so before 24 December
pub record Working (y : ℕ) (hs : List ℕ) (d : ℕ) : Type 0 where
  pub week : weekday_of y d ≤ 4
  pub unlisted : listed hs d ≡ false
  pub new_year : 1 < d
  pub christmas : d + 7 < year_days y

-- a bridge day (Rule 3.4): a working Monday before a listed Tuesday; or a working Friday after a listed Thursday, where
-- the Monday of its week, four days before, is no bridge day
pub record MondayBridge (y : ℕ) (hs : List ℕ) (d : ℕ) : Type 0 where
  pub monday : weekday_of y d ≡ 0
  pub tuesday : listed hs (d + 1) ≡ true
  pub working : Working y hs d

pub record FridayBridge (y : ℕ) (hs : List ℕ) (d : ℕ) : Type 0 where
  pub friday : weekday_of y d ≡ 4
  pub thursday : listed hs (d - 1) ≡ true
  pub working : Working y hs d
  pub first : MondayBridge y hs (d - 4) → ⊥

-- a working day that is no bridge day
pub record CarriesWindows (y : ℕ) (hs : List ℕ) (d : ℕ) : Type 0 where
  pub working : Working y hs d
  pub no_monday : MondayBridge y hs d → ⊥
  pub no_friday : FridayBridge y hs d → ⊥

-- a day's kind, by its code: 1 it carries windows; 2 a Saturday or Sunday; 3 a listed day from Monday to Friday; 4 one
-- from Monday to Friday in the Christmas period (1 January, or one of the year's last eight days) that is not listed; 5
-- a bridge day
pub data KindRow (y : ℕ) (hs : List ℕ) (d : ℕ) : ℕ → Type 0 where
  windows : CarriesWindows y hs d → KindRow y hs d 1
  weekend : 5 ≤ weekday_of y d → KindRow y hs d 2
  holiday : weekday_of y d ≤ 4 → listed hs d ≡ true → KindRow y hs d 3
  christmas : weekday_of y d ≤ 4 → listed hs d ≡ false → (d ≤ 1) ⊎ (year_days y ≤ d + 7) → KindRow y hs d 4
  bridge : MondayBridge y hs d ⊎ FridayBridge y hs d → KindRow y hs d 5

-- where the calendar answers 0, its figure is a code exactly when the row of that code holds
pub record Calendar (m : Module) : Type 0 where
  pub kind :
      (es : Editions) (y : ℕ) (hs : List ℕ) (d code : ℕ)
      → (m.calendar es y hs d).number ≡ 0
      → ((m.calendar es y hs d).figures ≡ code ∷ []) ↔ KindRow y hs d code
