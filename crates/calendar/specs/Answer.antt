-- What is answered when somebody asks of which kind day d, from 1, of year y is under the holiday list hs: one of 1, 3
-- and 13, tested in this order, or the kind. ed is the edition of the year. Rules 3.5 and 8.2.
use Rattle.std.specs.Prelude.{Bool, cond, List, [], ◌∷◌, ℕ, Result, Ok, Err}
use Rattle.ranges.specs.Limits.{Within, outside}
use Rattle.answers.specs.declared.Edition.{Edition}
use Rattle.answers.specs.Ruling.{lacks_year, HasYear}
use Rattle.answers.specs.Said.{Said, only}
use Rattle.dates.specs.Dates.{year_days}
use Rattle.holidays.specs.Holidays.{bad_holidays, LegalHolidays}
use Rattle.calendar.specs.declared.DayRefusal.{DayRefusal}
use Rattle.calendar.specs.declared.DayRefusal.TheVariants.{YearOut, BadList, DayOut}
use Rattle.day_kinds.specs.declared.DayKind.{DayKind}
use Rattle.day_kinds.specs.Kinds.{kind_code, kind_of}

-- 0, with the code of a kind
abbrev pub of_kind : DayKind → Said
of_kind kind = record { number = 0; figures = kind_code kind ∷ [] }

-- the number and the figures of each case of the code's answer
abbrev pub said_of_day : Result DayKind DayRefusal → Said
said_of_day (Ok kind) = of_kind kind
said_of_day (Err YearOut) = only 1
said_of_day (Err BadList) = only 3
said_of_day (Err DayOut) = only 13

-- answer 13: the year does not have the day
unfoldable pub day_out : ℕ → ℕ → Bool
day_out y d = outside 1 (year_days y) d

abbrev pub DayOfYear : ℕ → ℕ → Type 0
DayOfYear y d = Within 1 (year_days y) d

-- what is answered: the first number whose test holds, else 0 with the day's kind
unfoldable pub calendar_answer : Edition → ℕ → List ℕ → ℕ → Said
calendar_answer ed y hs d =
    cond (lacks_year ed y) (only 1)
    (cond (bad_holidays y hs) (only 3)
    (cond (day_out y d) (only 13)
    (of_kind (kind_of y hs d))))

-- The rows of the table of Rule 8.1 for a calendar day: when each number is answered, no test before its own holding.
pub data DayRow (ed : Edition) (y : ℕ) (hs : List ℕ) (d : ℕ) : ℕ → Type 0 where
  one : (HasYear ed y → ⊥) → DayRow ed y hs d 1
  three : HasYear ed y → (LegalHolidays y hs → ⊥) → DayRow ed y hs d 3
  thirteen : HasYear ed y → LegalHolidays y hs → (DayOfYear y d → ⊥) → DayRow ed y hs d 13
  zero : HasYear ed y → LegalHolidays y hs → DayOfYear y d → DayRow ed y hs d 0
