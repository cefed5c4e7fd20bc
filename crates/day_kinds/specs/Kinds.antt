-- Which days of year y carry windows, and why the others are free. Days d count from 1; where a rule looks past the
-- year, day 0 is 31 December of the year before. `isListed` says which days the holiday list has. Rules 3.3 and 3.4.
use Rattle.std.specs.Prelude.{Bool, true, false, cond, not, ◌&&◌, ◌||◌, List, ℕ, ◌+◌, ◌-◌, leb, eqb}
use Rattle.ranges.specs.Ranges.{table}
use Rattle.dates.specs.Dates.{most_days, day_of, weekday_of, monday, friday, saturday}
use Rattle.holidays.specs.Holidays.{listed}
use Rattle.day_kinds.specs.declared.DayKind.{DayKind}
use Rattle.day_kinds.specs.declared.DayKind.TheVariants.{Windows, Weekend, Listed, Christmas, Bridge}

-- a Saturday or a Sunday
abbrev pub weekend : ℕ → ℕ → Bool
weekend y d = leb saturday (weekday_of y d)

-- 1 January, or one of 24 to 31 December. Day 0, which is 31 December, and the days behind the year count as such, too.
unfoldable pub christmas : ℕ → ℕ → Bool
christmas y d = leb d 1 || leb (day_of y 12 24) d

-- free by one of the first three grounds of Rule 3.3, those that are no bridge day
unfoldable pub free : ℕ → (ℕ → Bool) → ℕ → Bool
free y isListed d = weekend y d || (isListed d || christmas y d)

-- a candidate for a bridge day (Rule 3.4): it is the given weekday, the list has its neighbour, and no other ground
-- makes it free
unfoldable pub candidate : ℕ → (ℕ → Bool) → ℕ → ℕ → ℕ → Bool
candidate y isListed weekday neighbour d = eqb (weekday_of y d) weekday && (isListed neighbour && not (free y isListed d))

-- the two candidates of a week: its Monday, by the day after it, and its Friday, by the day before it
abbrev pub monday_candidate : ℕ → (ℕ → Bool) → ℕ → Bool
monday_candidate y isListed d = candidate y isListed monday (d + 1) d

abbrev pub friday_candidate : ℕ → (ℕ → Bool) → ℕ → Bool
friday_candidate y isListed d = candidate y isListed friday (d - 1) d

-- a bridge day: of two candidates in one week the Monday, which is four days before the Friday. (A Monday that lies in
-- the year before is one of 24 to 31 December, so no candidate; d - 4 is then cut off at 0, and day 0 is none either.)
unfoldable pub bridge : ℕ → (ℕ → Bool) → ℕ → Bool
bridge y isListed d = monday_candidate y isListed d || (friday_candidate y isListed d && not (monday_candidate y isListed (d - 4)))

-- whether a day carries windows and, where it does not, the first ground, in this order, that makes it free (Rule 3.3)
unfoldable pub kind_by : ℕ → (ℕ → Bool) → ℕ → DayKind
kind_by y isListed d =
    cond (weekend y d) Weekend
    (cond (isListed d) Listed
    (cond (christmas y d) Christmas
    (cond (bridge y isListed d) Bridge
    Windows)))

-- a kind's code, from 1, in the order of Rule 3.5
abbrev pub kind_code : DayKind → ℕ
kind_code Windows = 1
kind_code Weekend = 2
kind_code Listed = 3
kind_code Christmas = 4
kind_code Bridge = 5

-- does a day of this kind carry windows?
abbrev pub is_windows : DayKind → Bool
is_windows Windows = true
is_windows Weekend = false
is_windows Listed = false
is_windows Christmas = false
is_windows Bridge = false

-- day d of year y under the holiday list hs
abbrev pub kind_of : ℕ → List ℕ → ℕ → DayKind
kind_of y hs d = kind_by y (listed hs) d

abbrev pub carries : ℕ → List ℕ → ℕ → Bool
carries y hs d = is_windows (kind_of y hs d)

-- which days of a year carry windows: place k, from 0, is day k + 1. In a common year day 366 is the next 1 January and
-- carries none.
unfoldable pub window_days : ℕ → List ℕ → List Bool
window_days y hs = table (λ k. carries y hs (k + 1)) most_days
