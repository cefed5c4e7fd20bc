-- `legal_readings::any_above` meets its contract. The loop's invariant: `any` tells whether one of the readings before
-- its place is above the limit.
-- Assumes nothing.
use mathlib.Core.Path.{◌≡◌}
use Prim.Native.Nat.{ℕ, ◌≤◌}
use lib.Dec.{ltb}
use lib.ListN.{length, get_or}
use Rattle.ranges.specs.Ranges.{any_over}
use Rattle.legal_readings.proofs.any_above.Given as goal

abbrev pub invariant-loop-reading : goal.invariant-loop-reading
invariant-loop-reading l = (l.reading-index ≤ length l.readings) × (l.any ≡ any_over (λ (k : ℕ). ltb l.limit (get_or l.readings k 0)) l.reading-index)
