-- `charges::with_floor` meets its contract: g taken apart at hundreds gives the same floor, and its products are small.
-- Assumes nothing.
use mathlib.Core.Path.{ap, ◌∙◌}
use Prim.Native.Nat.{◌*◌, ◌/◌, ◌%◌, ◌≤◌, max}
use native.Mathlib.Omega.{arith}
use Rattle.ranges.proofs.Products.{product}
use Rattle.answers.specs.Edition.{whole_share}
use Rattle.tariff.proofs.Charges.{floor_split}
use borrow.Author.Rules.{rules}
use Rattle.charges.proofs.with_floor.Goals.{After-from-percent}
use Rattle.charges.proofs.with_floor.Goals as goal

bounds :
    (c : After-from-percent)
    → let g = c.args.g in
    let percent = c.from-percent.result in
    (g / whole_share * percent ≤ 10000000000000000 * 255) × (g % whole_share * percent ≤ whole_share * 255)
bounds c =
    let g = c.args.g in
    let percent = c.from-percent.result in (
      product (g / whole_share) percent {m = 10000000000000000} {n = 255} (omega arith) (search rules),
      product (g % whole_share) percent {m = whole_share} {n = 255} (omega arith) (search rules),
    )

pub returns : goal.returns
returns c = c.max.ensures ∙ rw c.from-percent.ensures (ap (max c.args.r) (floor_split c.args.edition c.args.g))
