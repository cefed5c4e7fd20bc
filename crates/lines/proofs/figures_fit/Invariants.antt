-- `lines::figures_fit` meets its contract. The loop's invariant: the first i fields and what is left are the room.
-- Assumes nothing.
use mathlib.Core.Path.{◌≡◌}
use Prim.Native.Nat.{◌+◌, ◌-◌, ◌≤◌}
use lib.ListN.{length}
use Rattle.texts.specs.Text.{text_over}
use Rattle.lines.specs.Figures.{field_in}
use Rattle.lines.proofs.figures_fit.Given as goal

abbrev pub invariant-loop-i : goal.invariant-loop-i
invariant-loop-i l =
    (l.i-end ≡ length l.figures) × (l.i ≤ length l.figures) × (l.left + length (text_over (field_in l.figures) l.i) ≡ l.room)

abbrev pub decreases-loop-i : goal.decreases-loop-i
decreases-loop-i l = l.i-end - l.i
