-- `customer_head::refusal` meets its contract, a law for each return.
-- Assumes nothing.
use mathlib.Core.Path.{ap, ◌∙◌}
use mathlib.Core.Bool.{Bool}
use Prim.Native.Nat.{◌-◌}
use native.Mathlib.Omega.{arith}
use lib.ListN.{get_or}
use Rattle.ranges.specs.Ranges.{number_if}
use Rattle.fields.specs.Layout.{field_at}
use Rattle.customer_head.specs.Header.{price_fields}
use Rattle.customer_head.proofs.CustomerLayout.{refusal_holiday, refusal_rest}
use Rattle.customer_head.proofs.Refusals.{first_numbers, first_number}
use Rattle.customer_head.proofs.Firsts.{numbers}
use Rattle.customer_head.proofs.refusal.Goals as goal

pub returns-then-k-lt-FIRST_FIELDS : goal.returns-then-k-lt-FIRST_FIELDS
returns-then-k-lt-FIRST_FIELDS c =
    let a = c.args in
    c.number_if.ensures
    ∙ ap (number_if c.first_fails.result) (numbers a.k (omega arith))
    ∙ ap (λ (t : Bool). number_if t (get_or first_numbers a.k 0)) c.first_fails.ensures
    ∙ first_number a.editions a.head.now a.k (omega arith)

pub returns-then-k-n : goal.returns-then-k-n
returns-then-k-n c = c.holiday_no.ensures ∙ refusal_holiday _ _ _ (omega arith) (omega arith)

pub returns : goal.returns
returns c =
    let a = c.args in
    let n = c.holiday_count-n.ensures.0 in
    c.price_no.ensures
    ∙ (λ i. (field_at (price_fields a.head.now) (a.k - 12 - n i)).refused_at (c.span_of.ensures a.editions i).start)
    ∙ refusal_rest a.editions a.head.now a.k (omega arith)
