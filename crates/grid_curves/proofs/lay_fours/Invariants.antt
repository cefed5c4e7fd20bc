-- `grid_curves::lay_fours` meets its contract. The loop's invariant: the curves are those of the first d days, and
-- `at` is where day d stands.
-- Assumes nothing.
use mathlib.Core.Path.{◌≡◌}
use Prim.Native.Nat.{◌≤◌, ◌-◌}
use Rattle.readings.specs.declared.Run.TheVariants.{Period}
use Rattle.readings.specs.Runs.{day_start}
use Rattle.grid_curves.specs.Curves.{flat_curves}
use Rattle.grid_curves.proofs.lay_fours.Given as goal

abbrev pub invariant-loop-d : goal.invariant-loop-d
invariant-loop-d l =
    (l.from ≤ l.d) × (l.d ≤ l.end) × (l.at ≡ day_start (Period l.fn.sundays.year) l.d) × (l.curves ≡ flat_curves l.fn.sundays.year l.series l.d)

abbrev pub decreases-loop-d : goal.decreases-loop-d
decreases-loop-d l = l.end - l.d
