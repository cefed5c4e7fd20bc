-- `grid::flat_windows` meets its contract. The loop's invariant: the first p places are filled in.
-- Assumes nothing.
use mathlib.Core.Bool.{false}
use mathlib.Core.List.{[]}
use Prim.Native.Nat.{ℕ, ◌/◌, ◌%◌}
use lib.ListN.{get_or}
use Rattle.answers.specs.Ruling.{day_quarters}
use Rattle.sheet.specs.Windows.{window_places}
use Rattle.ranges.proofs.Tables.{Filled}
use Rattle.grid.proofs.flat_windows.Given as goal

abbrev pub invariant-loop-p : goal.invariant-loop-p
invariant-loop-p l = Filled (λ (k : ℕ). get_or (get_or l.chosen (k / day_quarters) []) (k % day_quarters) false) window_places false l.p l.set-items
