-- `grid_curves::stop_at` meets its contract, by whether the Sunday is one of the days.
-- Assumes nothing.
use native.Mathlib.Omega.{arith}
use borrow.Author.Tests.{le-leb, lt-ltb, leb-true, ltb-true}
use lib.Dec.{leb, ltb}
use Rattle.ranges.proofs.Bools.{both, pair, clash}
use Rattle.grid_curves.proofs.stop_at.Goals as goal

pub returns-then-from-sunday : goal.returns-then-from-sunday
returns-then-from-sunday c =
    let a = c.args in
    let t = both (leb a.from a.sunday) (ltb a.sunday a.end) c.if-from-sunday.true in
    let before = ltb-true a.sunday a.end t.1 in
    record { at_least = leb-true a.from a.sunday t.0; at_most = omega arith; none = λ k l h e. omega arith }

pub returns-else-from-sunday : goal.returns-else-from-sunday
returns-else-from-sunday c =
    record {
      at_least = c.requires;
      at_most = omega arith;
      none = λ k a b e. clash (pair (le-leb _ _ (rw e at a)) (lt-ltb _ _ (rw e at b))) c.if-from-sunday.false;
    }
