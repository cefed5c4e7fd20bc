-- What the day program prints for the bytes b of its input: the day asked for with its weekday and its kind in words,
-- or what is wrong. Rules 10.9 to 10.11.
use Rattle.std.specs.Prelude.{cond, List, ◌++◌, ℕ, eqb, get_or, take}
use Rattle.answers.specs.Said.{Said}
use Rattle.dates.specs.Dates.{weekday_of}
use Rattle.encoding.specs.Bytes.{ascii}
use Rattle.day_text.specs.Asked.{no_dates, year_at, day_at, why_answer}

-- a weekday's name, from 0 (Monday)
unfoldable pub weekday_name : ℕ → List ℕ
weekday_name w =
    cond (eqb w 0) (ascii "Monday")
    (cond (eqb w 1) (ascii "Tuesday")
    (cond (eqb w 2) (ascii "Wednesday")
    (cond (eqb w 3) (ascii "Thursday")
    (cond (eqb w 4) (ascii "Friday")
    (cond (eqb w 5) (ascii "Saturday")
    (ascii "Sunday"))))))

-- a kind in words, by its code, from 1
unfoldable pub kind_word : ℕ → List ℕ
kind_word code =
    cond (eqb code 1) (ascii "window")
    (cond (eqb code 2) (ascii "weekend")
    (cond (eqb code 3) (ascii "holiday")
    (cond (eqb code 4) (ascii "Christmas")
    (ascii "bridge day"))))

-- the line of a day: the date as it was asked for, its weekday, its kind
unfoldable pub day_line : List ℕ → ℕ → List ℕ
day_line b code = take 10 b ++ (ascii " " ++ (weekday_name (weekday_of (year_at b 0) (day_at b 0)) ++ (ascii " " ++ (kind_word code ++ ascii "\n"))))

-- the line of a refusal
unfoldable pub wrong_line : ℕ → List ℕ
wrong_line number =
    cond (eqb number 1) (ascii "REFUSED 1 the year is not one of 2014 to 2028\n")
    (cond (eqb number 3) (ascii "REFUSED 3 the holidays are not rising days of that year, 40 at most\n")
    (ascii "REFUSED 13 a year does not have the date\n"))

unfoldable pub usage_line : List ℕ
usage_line = ascii "usage: dates, one to a line, as 2025-05-02: the day asked for, then the listed holidays\n"

abbrev pub said_line : List ℕ → Said → List ℕ
said_line b said = cond (eqb said.number 0) (day_line b (get_or said.figures 0 0)) (wrong_line said.number)

unfoldable pub why_text : List ℕ → List ℕ
why_text b = cond (no_dates b) usage_line (said_line b (why_answer b))
