-- `customer_head::price_no` meets its contract, the test of a price of its kind.
-- Assumes nothing.
use mathlib.Core.Path.{ap, ◌∙◌}
use native.Mathlib.Omega.{arith}
use Rattle.answers.specs.Ruling.{capacity_out, energy_out}
use Rattle.customer_head.proofs.Refusals.{no_price, capacity_no, energy_no}
use Rattle.customer_head.proofs.price_no.Goals as goal

pub returns-then-j-ge-PRICE_FIELDS : goal.returns-then-j-ge-PRICE_FIELDS
returns-then-j-ge-PRICE_FIELDS c = let a = c.args in no_price a.head.now a.i a.j (omega arith)

pub returns-then-j-eq0 : goal.returns-then-j-eq0
returns-then-j-eq0 c =
    let price = c.four_at-price.ensures in
    c.number_if.ensures ∙ capacity_no _ _ _ (omega arith) c.if-j-eq0.true (c.capacity_out.ensures ∙ ap capacity_out price)

pub returns : goal.returns
returns c =
    let price = c.four_at-price.ensures in
    c.number_if-2.ensures ∙ energy_no _ _ _ (omega arith) c.if-j-eq0.false (c.energy_out.ensures ∙ ap energy_out price)
