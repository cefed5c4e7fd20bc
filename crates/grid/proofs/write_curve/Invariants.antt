-- `grid::write_curve` meets its contract. The loop's invariant: the first q values are written.
-- Assumes nothing.
use Prim.Native.Nat.{ℕ, ◌+◌, ◌*◌}
use lib.ListN.{get_or}
use Rattle.answers.specs.Ruling.{day_quarters}
use Rattle.ranges.proofs.Tables.{Filled}
use Rattle.grid.proofs.write_curve.Given as goal

abbrev pub invariant-loop-q : goal.invariant-loop-q
invariant-loop-q l = Filled (λ (k : ℕ). get_or l.flat (day_quarters * l.s + k) 0) day_quarters 0 l.q l.out
