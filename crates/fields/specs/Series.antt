-- The readings behind the header, four bytes each with the high byte first, and what they are answered. A run is the
-- days of a charge year or of a reference period (room `readings`). Day d of a run has the bytes of its readings,
-- behind those of the days before it; h is the header's size in bytes. Days d and places count from 0. Rules 10.1 and
-- 10.5.
use Rattle.std.specs.Prelude.{cond, List, ℕ, ◌+◌, ◌*◌, ◌/◌, ltb, eqb, length, drop}
use Rattle.ranges.specs.Ranges.{first_over, table}
use Rattle.answers.specs.Said.{Said, only, bad_place}
use Rattle.encoding.specs.Bytes.{four_at}
use Rattle.readings.specs.declared.Run.{Run}
use Rattle.readings.specs.Runs.{run_days, day_len, day_start, run_readings}
use Rattle.readings.specs.Legal.{bad_day, first_illegal}

-- how many bytes a reading has
abbrev pub reading_bytes : ℕ
reading_bytes = 4

-- the readings in some bytes, as far as all four bytes of one are there; and the series of a file
unfoldable pub readings_of : List ℕ → List ℕ
readings_of b = table (λ i. four_at b (reading_bytes * i)) (length b / reading_bytes)

abbrev pub series_in : List ℕ → ℕ → List ℕ
series_in bytes h = readings_of (drop h bytes)

-- how many bytes day d has, where they start, and how many bytes the whole file has
abbrev pub day_size : Run → ℕ → ℕ
day_size run d = reading_bytes * day_len run d

abbrev pub day_at : Run → ℕ → ℕ → ℕ
day_at run h d = h + reading_bytes * day_start run d

abbrev pub file_size : Run → ℕ → ℕ
file_size run h = h + reading_bytes * run_readings run

-- how many days a file has all bytes of: those before the first that its end cuts off
unfoldable pub whole_days : Run → ℕ → List ℕ → ℕ
whole_days run h bytes = first_over (λ d. ltb (length bytes) (day_at run h (d + 1))) (run_days run)

-- 5 for an illegal reading in a day of which all bytes are there, whatever follows; else `done` where the file has just
-- its size, else 4: it ends in a day, or has bytes behind the last one (Rule 10.5)
unfoldable pub days_answer : Run → ℕ → ℕ → Said → List ℕ → Said
days_answer run limit h done bytes =
    cond (ltb (bad_day run limit (series_in bytes h)) (whole_days run h bytes)) (bad_place (first_illegal run limit (series_in bytes h)))
    (cond (eqb (length bytes) (file_size run h)) done
    (only 4))
