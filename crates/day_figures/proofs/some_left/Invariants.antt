-- `day_figures::some_left` meets its contract. The loop's invariant: `any` tells whether one of the first q masks
-- leaves something.
-- Assumes nothing.
use mathlib.Core.Path.{◌≡◌}
use Prim.Native.Nat.{ℕ, ◌-◌, ◌≤◌}
use lib.Dec.{ltb}
use lib.ListN.{get_or}
use Rattle.ranges.specs.Ranges.{any_over}
use Rattle.answers.specs.Ruling.{day_quarters}
use Rattle.day_figures.proofs.some_left.Given as goal

abbrev pub invariant-loop-mask : goal.invariant-loop-mask
invariant-loop-mask l = (l.mask-index ≤ day_quarters) × (l.any ≡ any_over (λ (k : ℕ). ltb 0 (get_or l.masks k 0)) l.mask-index)

abbrev pub decreases-loop-mask : goal.decreases-loop-mask
decreases-loop-mask l = day_quarters - l.mask-index
