-- The numbers and dates of the rules, written out: the limits and shares that the rows of specs/Answers name, and what
-- a weekday, a season and the reference period are. What the line, the hours of use and the floor do stands in
-- specs/Windows and Charges, their forms by today's edition in specs/Forms. Rules 1.5, 2.1 to 2.3, 2.6, 2.7, 3.1, 3.2,
-- 4.1, 4.5 and 7.6.
use Rattle.std.specs.Prelude.{◌≡◌, ◌↔◌, ◌⊎◌, ℕ, suc, ◌+◌, ◌-◌, ◌*◌, ◌%◌, ◌≤◌, ◌<◌, get_or}
use Rattle.ranges.specs.Limits.{Within}
use Rattle.answers.specs.declared.Edition.{Edition}
use Rattle.answers.specs.Edition.{whole_share, today}
use Rattle.answers.specs.Ruling.{HasYear, editions_from, editions_to, move_most, reduction_most, hours_most, Level, grid_most, customer_most, missing, capacity_most, energy_most, holidays_most, day_quarters, share_of, least_move, least_reduction, LegalEdition}
use Rattle.editions.specs.Editions.{editions_most}
use Rattle.dates.specs.Dates.{year_days, month_days, day_of, weekday_of, season_of}
use Rattle.periods.specs.Period.{period_days, period_date, period_season}

pub record Numbers : Type 0 where
  -- an edition holds for the years from its first to its last, as far as they lie in 2014 to 2060; today's ends with
  -- 2028
  pub edition_years : (ed : Edition) (y : ℕ) → HasYear ed y ↔ (Within 2014 2060 y × Within ed.first ed.last y)
  pub years : (y : ℕ) → HasYear today y ↔ ((2014 ≤ y) × (y ≤ 2028))
  -- how many editions a list has at most; and the ranges of an edition: years, whole percents, the least move in W, the
  -- least reduction in cent, and hours of use
  pub editions_limit : editions_most ≡ 8
  pub first_year : editions_from ≡ 2014
  pub last_year : editions_to ≡ 2060
  pub percents : whole_share ≡ 100
  pub move_limit : move_most ≡ 1000000000
  pub reduction_limit : reduction_most ≡ 1000000
  pub hours_limit : hours_most ≡ 8784
  pub levels : (l : ℕ) → Level l ↔ ((1 ≤ l) × (l ≤ 7))
  -- the highest legal readings, in kW of the grid and in W of a customer, and what is sent for a lost one
  pub grid_limit : grid_most ≡ 200000000
  pub customer_limit : customer_most ≡ 1000000000
  pub missing_is : missing ≡ 4294967295
  -- the highest prices: cent for one kW a year, thousandths of a cent for one kWh
  pub capacity_limit : capacity_most ≡ 100000
  pub energy_limit : energy_most ≡ 50000
  -- how many holidays a list has at most, quarters a day, and windows a season
  pub holidays_limit : holidays_most ≡ 40
  pub quarters : day_quarters ≡ 96
  pub windows_limit : today.limit ≡ 40
  -- which numbers of an edition are the share of a level, the least move and the least reduction
  pub share_is : (ed : Edition) (level : ℕ) → share_of ed level ≡ get_or ed.shares (level - 1) 0
  pub move_is : (ed : Edition) → least_move ed ≡ ed.least_move
  pub reduction_is : (ed : Edition) → least_reduction ed ≡ ed.least_reduction
  -- today's share of each level, 1 to 7, in percent
  pub share_1 : share_of today 1 ≡ 5
  pub share_2 : share_of today 2 ≡ 10
  pub share_3 : share_of today 3 ≡ 10
  pub share_4 : share_of today 4 ≡ 20
  pub share_5 : share_of today 5 ≡ 20
  pub share_6 : share_of today 6 ≡ 30
  pub share_7 : share_of today 7 ≡ 30
  -- the least move in W: 100 kW; the least reduction in cent: 500 euro; the line and the floor in percent; the hours
  pub move : least_move today ≡ 100 * 1000
  pub reduction : least_reduction today ≡ 500 * 100
  pub line : today.line ≡ 95
  pub floor : today.floor ≡ 20
  pub hours : today.hours ≡ 2500
  -- today's edition is a legal one
  pub legal : LegalEdition today

pub record Dates : Type 0 where
  -- every fourth year has 366 days; of the hundreds, every fourth
  pub leap : (y : ℕ) → y % 4 ≡ 0 → (y % 100 ≡ 0 → ⊥) ⊎ (y % 400 ≡ 0) → year_days y ≡ 366
  pub common : (y : ℕ) → (y % 4 ≡ 0 → ⊥) ⊎ ((y % 100 ≡ 0) × (y % 400 ≡ 0 → ⊥)) → year_days y ≡ 365
  -- 1 January 2014 is a Wednesday; the next day has the next weekday, over the turn of a year, too. Weekdays count from
  -- 0 (Monday), days of a year from 1.
  pub anchor : weekday_of 2014 1 ≡ 2
  pub next_day : (y d : ℕ) → weekday_of y (d + 1) ≡ (weekday_of y d + 1) % 7
  pub new_year : (y : ℕ) → weekday_of (suc y) 1 ≡ (weekday_of y (year_days y) + 1) % 7
  -- the season of the j-th of month m, all three from 1: 1 in December, January and February, 2 from March, 3 from
  -- June, 4 from September on
  pub winter : (y m j : ℕ) → Within 1 2 m ⊎ (m ≡ 12) → Within 1 (month_days y m) j → season_of y (day_of y m j) ≡ 1
  pub spring : (y m j : ℕ) → Within 3 5 m → Within 1 (month_days y m) j → season_of y (day_of y m j) ≡ 2
  pub summer : (y m j : ℕ) → Within 6 8 m → Within 1 (month_days y m) j → season_of y (day_of y m j) ≡ 3
  pub autumn : (y m j : ℕ) → Within 9 11 m → Within 1 (month_days y m) j → season_of y (day_of y m j) ≡ 4
  -- the k-th day of the reference period of year y, from 1: the first 122 begin with 1 September of y - 2, the others
  -- with 1 January of y - 1, and the last is its 31 August
  pub period_autumn : (y k : ℕ) → k ≤ 122 → ((period_date y k).year ≡ y - 2) × ((period_date y k).day ≡ day_of (y - 2) 9 k)
  pub period_rest : (y k : ℕ) → 122 < k → ((period_date y k).year ≡ y - 1) × ((period_date y k).day ≡ k - 122)
  pub period_last : (y : ℕ) → (period_date y (period_days y)).day ≡ day_of (y - 1) 8 31
  pub period_season_law : (y k : ℕ) → period_season y k ≡ season_of (period_date y k).year (period_date y k).day
