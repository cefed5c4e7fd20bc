-- How the code works inside: which days cannot be one of the two Sundays, so that their lengths need no weekday; and
-- how many readings the Sundays before a day move it. Nothing of this is promised to a caller.
use Rattle.std.specs.Prelude.{ℕ, ltb}
use Rattle.ranges.specs.Ranges.{number_if}
use Rattle.readings.specs.declared.Run.{Run}
use Rattle.readings.specs.declared.Run.TheVariants.{Year, Period}
use Rattle.readings.specs.declared.Change.{Change}

-- the latest days, from 0, that a run's two Sundays can be; the earliest come at most seven days before
abbrev pub latest_of : Run → Change
latest_of (Year y) = record { short = 90; long = 304 }
latest_of (Period y) = record { short = 212; long = 60 }

-- the four readings that a Sunday lacks or has more, where it comes before day d; else none
abbrev pub four_before : ℕ → ℕ → ℕ
four_before sunday d = number_if (ltb sunday d) 4
