-- The last Sunday of a month in plain words: day d of year y, both from 1, lies in month m, is a Sunday, and the Sunday
-- after it does not lie in that month any more. That `last_sunday` is this day, and that no other is, is proved in
-- proofs/Sundays.
use Rattle.std.specs.Prelude.{◌≡◌, ℕ, ◌+◌, ◌-◌, ◌≤◌, ◌<◌}
use Rattle.dates.specs.Dates.{days_to, weekday_of, sunday}

pub record IsLastSunday (y m d : ℕ) : Type 0 where
  pub from : days_to y (m - 1) < d
  pub to : d ≤ days_to y m
  pub is_sunday : weekday_of y d ≡ sunday
  pub next_sunday : weekday_of y (d + 7) ≡ sunday
  pub next_out : days_to y m < d + 7
