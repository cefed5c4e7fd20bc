-- `day_text::listed_days` meets its contract. The loop's invariant: the first j places hold the listed days.
-- Assumes nothing.
use Prim.Native.Nat.{ℕ, ◌+◌, ◌*◌}
use Rattle.ranges.proofs.Tables.{Filled}
use Rattle.day_text.specs.Asked.{line_size, listed_at}
use Rattle.day_text.proofs.listed_days.Given as goal

abbrev pub invariant-loop-j : goal.invariant-loop-j
invariant-loop-j l = Filled (λ (i : ℕ). listed_at l.b (line_size * (i + 1))) l.n 0 l.j l.day-items
