-- `grid_curves::collect` meets its contract. The loop's invariant: the curves are those of the first d days.
-- Assumes nothing.
use mathlib.Core.Path.{◌≡◌}
use Prim.Native.Nat.{◌≤◌, ◌-◌}
use Rattle.periods.specs.Period.{period_days}
use Rattle.grid_curves.specs.Curves.{flat_curves}
use Rattle.grid_curves.proofs.collect.Given as goal

abbrev pub invariant-loop-d : goal.invariant-loop-d
invariant-loop-d l = (l.days ≡ period_days l.year) × (l.d ≤ l.days) × (l.curves ≡ flat_curves l.year l.series l.d)

abbrev pub decreases-loop-d : goal.decreases-loop-d
decreases-loop-d l = l.days - l.d
