-- `sheet_write::fill` meets its contract. The loop's invariant: the first i places hold the sheet's bytes.
-- Assumes nothing.
use Prim.Native.Nat.{ℕ}
use lib.ListN.{get_or}
use Rattle.sheet.specs.Bytes.{sheet_size, bytes_of}
use Rattle.ranges.proofs.Tables.{Filled}
use Rattle.sheet_write.proofs.fill.Given as goal

abbrev pub invariant-loop-i : goal.invariant-loop-i
invariant-loop-i l = Filled (λ (k : ℕ). get_or (bytes_of l.year l.level l.windows) k 0) sheet_size 0 l.i l.byte-items
