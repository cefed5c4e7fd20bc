-- `dates::month` meets its contract. The loop's invariant: every month before month m has ended before the day.
-- Assumes nothing.
use Prim.Native.Nat.{ℕ, ◌+◌, ◌-◌, ◌≤◌, ◌<◌}
use Rattle.dates.specs.Dates.{days_to}
use Rattle.dates.proofs.month.Given as goal

abbrev pub invariant-loop-m : goal.invariant-loop-m
invariant-loop-m l = (1 ≤ l.m) × (l.m ≤ 12) × ((k : ℕ) → k + 1 < l.m → days_to l.year (k + 1) < l.day)

abbrev pub decreases-loop-m : goal.decreases-loop-m
decreases-loop-m l = 12 - l.m
