-- `decision::reduction_short` meets its contract: a difference below the least reduction is a sum above the general
-- charge.
-- Assumes nothing.
use Prim.Native.Nat.{◌+◌}
use native.Mathlib.Omega.{arith}
use Rattle.ranges.proofs.Bools.{same_order}
use Rattle.answers.specs.Ruling.{least_reduction}
use Rattle.decision.proofs.reduction_short.Goals as goal

pub returns-in-Some : goal.returns-in-Some
returns-in-Some c =
    let a = c.args in
    let sub = rw c.in-Some.is at c.checked_sub.ensures in
    same_order c.in-Some.cut c.from.result a.charges.general (a.charges.charge + least_reduction a.edition)
    (λ l. omega (arith, c.from.ensures, sub)) (λ l. omega (arith, c.from.ensures, sub))
