-- Which quarter of a customer's year is in-window, so that its reading counts towards H, and the row of a day that says
-- so. Days d and positions p count from 0; the seasons are 1 to 4; windows are the 96 flags of season 1, then those of
-- 2, 3 and 4. Rule 6.2.
use Rattle.std.specs.Prelude.{Bool, false, ◌&&◌, List, ℕ, ◌+◌, get_or, take, drop}
use Rattle.answers.specs.Ruling.{day_quarters}
use Rattle.dates.specs.Dates.{season_of}
use Rattle.readings.specs.declared.Run.TheVariants.{Year}
use Rattle.readings.specs.Runs.{quarter_of}
use Rattle.sheet.specs.Windows.{quarter_place, is_set}
use Rattle.day_figures.specs.Day.{row_if}

-- the quarter at position p of day d is set in the windows of the day's season (`season_of` counts days from 1)
unfoldable pub set_on : ℕ → List Bool → ℕ → ℕ → Bool
set_on y windows d p = is_set windows (season_of y (d + 1)) (quarter_of (Year y) d p)

-- it is in-window, and counts towards H, where the day carries windows as well
abbrev pub counts_on : ℕ → Bool → List Bool → ℕ → ℕ → Bool
counts_on y carries windows d p = carries && set_on y windows d p

-- the 96 flags of season s, from 1, as a row whose first flag is quarter 0's
abbrev pub season_row : List Bool → ℕ → List Bool
season_row windows s = take day_quarters (drop (quarter_place s 0) windows)

-- the row of day d: the windows of its season where the day carries windows, else a row in which nothing is set. Flag d
-- of `carrying`, from 0, is day d's.
unfoldable pub day_row : ℕ → List Bool → List Bool → ℕ → List Bool
day_row y carrying windows d = row_if (get_or carrying d false) (season_row windows (season_of y (d + 1)))
