-- `windows::count_above` meets its contract. The loop's invariant: n of the first quarters are higher than the limit.
-- Assumes nothing.
use mathlib.Core.Path.{◌≡◌}
use Prim.Native.Nat.{ℕ, ◌≤◌}
use lib.Dec.{ltb}
use lib.ListN.{get_or}
use Rattle.ranges.specs.Ranges.{count_over}
use Rattle.answers.specs.Ruling.{day_quarters}
use Rattle.windows.proofs.count_above.Given as goal

abbrev pub invariant-loop-value : goal.invariant-loop-value
invariant-loop-value l =
    (l.value-index ≤ day_quarters) × (l.n ≤ l.value-index) × (l.n ≡ count_over (λ (k : ℕ). ltb l.limit (get_or l.curve k 0)) l.value-index)
