-- `grid_curves::lay_month` meets its contract. The loop's invariant: the curves are those of the first d days.
-- Assumes nothing.
use mathlib.Core.Path.{◌≡◌}
use Prim.Native.Nat.{◌≤◌}
use Rattle.grid_curves.specs.Curves.{flat_curves}
use Rattle.grid_curves.proofs.lay_month.Given as goal

abbrev pub invariant-loop-d : goal.invariant-loop-d
invariant-loop-d l = (l.from ≤ l.d) × (l.d ≤ l.end) × (l.curves ≡ flat_curves l.sundays.year l.series l.d)
