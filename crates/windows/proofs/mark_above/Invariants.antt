-- `windows::mark_above` meets its contract. The loop's invariant: the first q quarters are decided.
-- Assumes nothing.
use mathlib.Core.Bool.{false}
use Prim.Native.Nat.{ℕ}
use lib.Dec.{ltb}
use lib.ListN.{get_or}
use Rattle.answers.specs.Ruling.{day_quarters}
use Rattle.ranges.proofs.Tables.{Filled}
use Rattle.windows.proofs.mark_above.Given as goal

abbrev pub invariant-loop-q : goal.invariant-loop-q
invariant-loop-q l = Filled (λ (k : ℕ). ltb l.limit (get_or l.curve k 0)) day_quarters false l.q l.out
