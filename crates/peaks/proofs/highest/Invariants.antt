-- `peaks::highest` meets its contract. The loop's invariant: `top` is the highest of the readings before its place.
-- Assumes nothing.
use mathlib.Core.Path.{◌≡◌}
use Prim.Native.Nat.{ℕ, ◌≤◌}
use lib.ListN.{length, get_or}
use Rattle.ranges.specs.Ranges.{largest_over}
use Rattle.peaks.proofs.highest.Given as goal

abbrev pub invariant-loop-reading : goal.invariant-loop-reading
invariant-loop-reading l = (l.reading-index ≤ length l.readings) × (l.top ≡ largest_over (λ (k : ℕ). get_or l.readings k 0) l.reading-index)
