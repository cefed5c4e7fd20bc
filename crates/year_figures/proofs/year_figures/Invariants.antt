-- `year_figures::year_figures` meets its contract. The loop's invariant: the figures are those of the first d days, and
-- once a month is taken, the series has the year's length.
-- Assumes nothing.
use mathlib.Core.Path.{◌≡◌}
use Prim.Native.Nat.{◌-◌, ◌≤◌, ◌<◌}
use lib.ListN.{length}
use Rattle.dates.specs.Dates.{year_days}
use Rattle.readings.specs.declared.Run.TheVariants.{Year}
use Rattle.readings.specs.Runs.{run_readings}
use Rattle.year_figures.specs.Year.{figures_in}
use Rattle.year_figures.proofs.year_figures.Given as goal

abbrev pub invariant-loop-d : goal.invariant-loop-d
invariant-loop-d l =
    (l.d ≤ year_days l.year) × (l.figures ≡ figures_in l.year l.carrying l.windows l.series l.d)
    × (0 < l.d → length l.series ≡ run_readings (Year l.year))

abbrev pub decreases-loop-d : goal.decreases-loop-d
decreases-loop-d l = year_days l.year - l.d
