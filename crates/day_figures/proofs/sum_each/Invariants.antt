-- `day_figures::sum_each` meets its contract. The loop's invariant: the sum is that of the first p readings.
-- Assumes nothing.
use mathlib.Core.Path.{◌≡◌}
use Prim.Native.Nat.{◌*◌, ◌-◌, ◌≤◌}
use lib.ListN.{length}
use Rattle.ranges.specs.Ranges.{sum_over}
use Rattle.day_figures.specs.Day.{alone}
use Rattle.day_figures.proofs.sum_each.Given as goal

abbrev pub invariant-loop-reading : goal.invariant-loop-reading
invariant-loop-reading l =
    (length l.day ≤ 100) × (l.reading-index ≤ length l.day) × (l.sum ≡ sum_over (alone l.day) l.reading-index) × (l.sum ≤ 4294967295 * l.reading-index)

abbrev pub decreases-loop-reading : goal.decreases-loop-reading
decreases-loop-reading l = length l.day - l.reading-index
