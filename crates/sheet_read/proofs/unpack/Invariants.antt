-- `sheet_read::unpack` meets its contract. The loop's invariant: the first p quarters are filled in.
-- Assumes nothing.
use mathlib.Core.Bool.{false}
use Rattle.sheet.specs.Windows.{window_places}
use Rattle.sheet.specs.Bytes.{window_at}
use Rattle.ranges.proofs.Tables.{Filled}
use Rattle.sheet_read.proofs.unpack.Given as goal

abbrev pub invariant-loop-p : goal.invariant-loop-p
invariant-loop-p l = Filled (window_at l.b) window_places false l.p l.window-items
