-- `charges::charge_for` meets its contract: a sum taken apart at 4,000,000 gives the same charge, and its products are
-- small.
-- Assumes nothing.
use native.Mathlib.Omega.{arith}
use Rattle.tariff.proofs.Charges.{Small, small, charge_split}
use borrow.Author.Rules.{rules}
use Rattle.charges.proofs.charge_for.Goals.{After-from-energy}
use Rattle.charges.proofs.charge_for.Goals as goal

bounds : (c : After-from-energy) → Small c.from-watts.result c.from-capacity.result c.from-energy.result c.args.sum
bounds c =
    let capacity = c.from-capacity.ensures in
    let energy = c.from-energy.ensures in
    let row = c.requires in
    small _ _ _ _ (search rules) (omega (arith, row.capacity)) (omega (arith, row.energy)) (search rules)

pub overflow_mul-result : goal.overflow_mul-result
overflow_mul-result c = let h = bounds c in omega arith

pub returns : goal.returns
returns c = rw (c.from-watts.ensures, c.from-capacity.ensures, c.from-energy.ensures) (charge_split _ c.args.row _)
