-- `windows::limit_between` meets its contract. The loop's invariant: `most` or more are higher than
-- `low`, no more than `most` than `high`.
-- Assumes nothing.
use Prim.Native.Nat.{◌≤◌, ◌<◌, ◌-◌}
use Rattle.windows.specs.Cuts.{MostBetween}
use Rattle.windows.proofs.limit_between.Given as goal

abbrev pub invariant-loop-limits : goal.invariant-loop-limits
invariant-loop-limits l =
    (l.initial.limits.low ≤ l.limits.low) × (l.limits.low < l.limits.high) × MostBetween l.curve l.most l.limits.low l.limits.high

abbrev pub decreases-loop-limits : goal.decreases-loop-limits
decreases-loop-limits l = l.limits.high - l.limits.low
