-- `day_figures::sum_fourths` meets its contract. The loop's invariant: the sum is that of the first p places of each
-- fourth.
-- Assumes nothing.
use mathlib.Core.Path.{◌≡◌}
use Prim.Native.Nat.{◌*◌, ◌-◌, ◌≤◌}
use lib.ListN.{length}
use Rattle.day_figures.specs.Day.{alone}
use Rattle.day_figures.proofs.DaySums.{Fourths}
use Rattle.day_figures.proofs.sum_fourths.Given as goal

abbrev pub invariant-loop-p : goal.invariant-loop-p
invariant-loop-p l = (length l.day ≡ 4 * l.n) × (l.n ≤ 25) × Fourths (alone l.day) l.n l.sum l.p

abbrev pub decreases-loop-p : goal.decreases-loop-p
decreases-loop-p l = l.n - l.p
