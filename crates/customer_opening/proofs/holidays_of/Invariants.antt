-- `customer_opening::holidays_of` meets its contract. The loop's invariant: the first j places hold the file's
-- holidays.
-- Assumes nothing.
use Prim.Native.Nat.{ℕ, ◌+◌, ◌*◌}
use Rattle.encoding.specs.Bytes.{two_at}
use Rattle.customer_head.specs.Header.{holidays_at}
use Rattle.ranges.proofs.Tables.{Filled}
use Rattle.customer_opening.proofs.holidays_of.Given as goal

abbrev pub invariant-loop-j : goal.invariant-loop-j
invariant-loop-j l = Filled (λ (i : ℕ). two_at l.head (holidays_at + 2 * i)) l.n 0 l.j l.day-items
