-- `bench_grid::all_grid_days` meets its contract. The loop's invariant: the state is that after the first d days of the
-- series.
-- Assumes nothing.
use mathlib.Core.Path.{◌≡◌}
use Prim.Native.Nat.{◌≤◌, ◌-◌}
use Rattle.periods.specs.Period.{period_days}
use Rattle.readings.specs.declared.Run.TheVariants.{Period}
use Rattle.readings.specs.Days.{offered, days_of}
use Rattle.grid_days.specs.Days.{day_grid}
use Rattle.bench_grid.proofs.all_grid_days.Given as goal

abbrev pub invariant-loop-d : goal.invariant-loop-d
invariant-loop-d l =
    (l.d-end ≡ period_days l.year) × (l.d ≤ l.d-end) × (l.state ≡ offered day_grid l.initial.state (days_of (Period l.year) l.series l.d))

abbrev pub decreases-loop-d : goal.decreases-loop-d
decreases-loop-d l = l.d-end - l.d
