-- Which readings are legal: those up to a limit, which a caller names (`grid_most` or `customer_most` in `answers`,
-- specs/Ruling). A lost reading is sent as a number above both limits, so it is never legal. Of several illegal
-- readings the one on the earliest day is named, and on that day the one at the earliest position. Days d and positions
-- p count from 0, but for the place that is named. Rules 2.1, 2.2 and 8.4.
use Rattle.std.specs.Prelude.{Bool, cond, Option, Some, None, List, ℕ, ◌+◌, ltb, length, get_or}
use Rattle.ranges.specs.Ranges.{largest_over, any_over, first_over}
use Rattle.answers.specs.declared.Place.{Place}
use Rattle.readings.specs.declared.Run.{Run}
use Rattle.readings.specs.Runs.{run_days, day_len, reading}

-- is a reading v above the limit?
abbrev pub illegal : ℕ → ℕ → Bool
illegal limit v = ltb limit v

-- the highest of some readings, 0 of none; the place, from 0, of the first that is above the limit, or their number
-- where none is
unfoldable pub highest_of : List ℕ → ℕ
highest_of xs = largest_over (λ i. get_or xs i 0) (length xs)

unfoldable pub first_above : ℕ → List ℕ → ℕ
first_above limit xs = first_over (λ i. illegal limit (get_or xs i 0)) (length xs)

-- that place, where there is one
abbrev pub place_above : ℕ → List ℕ → Option ℕ
place_above limit xs = cond (ltb (first_above limit xs) (length xs)) (Some (first_above limit xs)) None

-- the highest reading of day d, and of the first n days of a run: the peak
unfoldable pub day_peak : Run → List ℕ → ℕ → ℕ
day_peak run xs d = largest_over (reading run xs d) (day_len run d)

unfoldable pub peak_of : Run → List ℕ → ℕ → ℕ
peak_of run xs n = largest_over (day_peak run xs) n

-- does day d of a series have an illegal reading, and at which position stands the first?
unfoldable pub bad_in : Run → ℕ → List ℕ → ℕ → Bool
bad_in run limit xs d = any_over (λ p. illegal limit (reading run xs d p)) (day_len run d)

unfoldable pub bad_at : Run → ℕ → List ℕ → ℕ → ℕ
bad_at run limit xs d = first_over (λ p. illegal limit (reading run xs d p)) (day_len run d)

-- the first day, from 0, that has one, or the number of days where none has
unfoldable pub bad_day : Run → ℕ → List ℕ → ℕ
bad_day run limit xs = first_over (bad_in run limit xs) (run_days run)

-- the place of the first illegal reading, as it is named in an answer: its day from 1 and its position from 0; day 0
-- where all readings are legal
unfoldable pub first_illegal : Run → ℕ → List ℕ → Place
first_illegal run limit xs =
    cond (ltb (bad_day run limit xs) (run_days run))
    (record { day = bad_day run limit xs + 1; position = bad_at run limit xs (bad_day run limit xs) })
    (record { day = 0; position = 0 })
