-- `sheet_write::pack` meets its contract. The loop's invariant: the first quarters are packed.
-- Assumes nothing.
use mathlib.Core.Path.{◌≡◌}
use Prim.Native.Nat.{◌-◌, ◌≤◌, ◌<◌}
use Rattle.ranges.specs.Ranges.{in_base}
use Rattle.sheet.proofs.Bytes.{quarter}
use Rattle.sheet_write.proofs.pack.Given as goal

abbrev pub invariant-loop-set : goal.invariant-loop-set
invariant-loop-set l = (l.set-index ≤ 8) × (l.byte < 256) × (l.byte ≡ in_base 2 (quarter l.windows l.k) l.set-index)

abbrev pub decreases-loop-set : goal.decreases-loop-set
decreases-loop-set l = 8 - l.set-index
