-- `day_figures::take_days` meets its contract. The loop's invariant: the first k days are taken in, and the next one
-- stands at `start`.
-- Assumes nothing.
use mathlib.Core.Path.{◌≡◌}
use Prim.Native.Nat.{◌+◌, ◌-◌, ◌≤◌}
use lib.ListN.{length}
use Rattle.readings.specs.Runs.{start_by}
use Rattle.day_figures.specs.Day.{with_days}
use Rattle.day_figures.proofs.take_days.Given as goal

abbrev pub invariant-loop-k : goal.invariant-loop-k
invariant-loop-k l =
    (l.k ≤ length l.flags) × (l.start ≡ start_by l.change (l.from + l.k)) × (l.figures ≡ with_days l.initial.figures l.change l.from l.flags l.row l.series l.k)

abbrev pub decreases-loop-k : goal.decreases-loop-k
decreases-loop-k l = length l.flags - l.k
