-- What the day program is asked, by the bytes b of its input: dates, one to a line, each four digits of a year, two of
-- a month and two of a day, with hyphens between them and a line feed behind them. The first is the day asked for, the
-- others are the listed holidays. Lines, places and list entries count from 0, months and days from 1. Rules 10.9 to
-- 10.11.
use Rattle.std.specs.Prelude.{Bool, cond, not, ◌||◌, List, ℕ, ◌+◌, ◌-◌, ◌*◌, ◌/◌, ◌%◌, min, eqb, length, get_or}
use Rattle.ranges.specs.Limits.{outside}
use Rattle.ranges.specs.Ranges.{any_over, table}
use Rattle.answers.specs.Ruling.{holidays_most}
use Rattle.answers.specs.Said.{Said, only}
use Rattle.editions.specs.Editions.{todays, edition_of, year_out}
use Rattle.dates.specs.Dates.{day_number}
use Rattle.encoding.specs.Bytes.{ascii}
use Rattle.calendar.specs.Answer.{calendar_answer}

-- the form of a line, where 0 stands for any digit, and how many bytes it has
abbrev pub form : List ℕ
form = ascii "0000-00-00\n"

abbrev pub line_size : ℕ
line_size = 11

-- does a byte not fit the form's byte f? In ASCII, 48 to 57 are the digits.
abbrev pub misfits : ℕ → ℕ → Bool
misfits f byte = cond (eqb f 48) (outside 48 57 byte) (not (eqb byte f))

abbrev pub misfits_at : List ℕ → ℕ → Bool
misfits_at b i = misfits (get_or form (i % line_size) 0) (get_or b i 0)

-- no dates at all: there is no line, one is cut off, or a byte does not fit
unfoldable pub no_dates : List ℕ → Bool
no_dates b =
    eqb (length b) 0
    || (not (eqb (length b % line_size) 0)
    || any_over (misfits_at b) (length b))

-- the number of two digits from place i on: in ASCII a digit is what is left of it when divided by 16
abbrev pub two_digits : List ℕ → ℕ → ℕ
two_digits b i = 10 * (get_or b i 0 % 16) + get_or b (i + 1) 0 % 16

-- a line that begins at place i: its year, and the number of its day in that year, from 1; 0 where the year does not
-- have the date
abbrev pub year_at : List ℕ → ℕ → ℕ
year_at b i = 100 * two_digits b i + two_digits b (i + 2)

abbrev pub day_at : List ℕ → ℕ → ℕ
day_at b i = day_number (year_at b i) (two_digits b (i + 5)) (two_digits b (i + 8))

-- how many lines there are; and does one of them have a date that its year does not have?
abbrev pub line_count : List ℕ → ℕ
line_count b = length b / line_size

abbrev pub missing_on : List ℕ → ℕ → Bool
missing_on b k = eqb (day_at b (line_size * k)) 0

unfoldable pub no_such_date : List ℕ → Bool
no_such_date b = any_over (missing_on b) (line_count b)

-- a listed day, as a day of the year asked for: 0, which no list may have, for a date of another year
abbrev pub listed_at : List ℕ → ℕ → ℕ
listed_at b i = cond (eqb (year_at b i) (year_at b 0)) (day_at b i) 0

-- the listed days: entry j stands on line j + 1. One more than a list may have is enough, so never more are taken.
abbrev pub list_count : List ℕ → ℕ
list_count b = min (holidays_most + 1) (line_count b - 1)

abbrev pub listed_days : List ℕ → List ℕ
listed_days b = table (λ j. listed_at b (line_size * (j + 1))) (list_count b)

-- what is answered, by today's list of editions: 1 for the year asked for, 13 for a date that its year does not have,
-- else what the calendar says
unfoldable pub why_answer : List ℕ → Said
why_answer b =
    cond (year_out todays (year_at b 0)) (only 1)
    (cond (no_such_date b) (only 13)
    (calendar_answer (edition_of todays (year_at b 0)) (year_at b 0) (listed_days b) (day_at b 0)))
