-- A lent series that is given to the grid day by day under today's list of editions, from its opening to its closing:
-- each day as its run has it, and where one is refused the next ones all the same. Rules 9.2 to 9.5.
use Rattle.std.specs.Prelude.{List, ℕ}
use Rattle.answers.specs.Said.{Said}
use Rattle.editions.specs.Editions.{todays, edition_of}
use Rattle.periods.specs.Period.{period_days}
use Rattle.readings.specs.declared.Run.TheVariants.{Period}
use Rattle.readings.specs.Days.{offered, days_of}
use Rattle.grid_days.specs.declared.Grid.{Grid}
use Rattle.grid_days.specs.Days.{open_grid, day_grid, grid_close_answer, grid_close_buffer}

-- the grid after the first n days of a series
abbrev pub grid_after_days : ℕ → ℕ → List ℕ → ℕ → Grid
grid_after_days y level xs n = offered day_grid (open_grid (edition_of todays y) y level) (days_of (Period y) xs n)

-- what closing answers after as many days as the period has, and the buffer then
abbrev pub grid_days_answer : ℕ → ℕ → List ℕ → ℕ → Said
grid_days_answer y level xs room = grid_close_answer (grid_after_days y level xs (period_days y)) room

abbrev pub grid_days_buffer : ℕ → ℕ → List ℕ → List ℕ → List ℕ
grid_days_buffer y level xs buffer = grid_close_buffer (grid_after_days y level xs (period_days y)) buffer
