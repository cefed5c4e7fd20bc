-- `customer_head::span_of` meets its contract, a law for each return.
-- Assumes nothing.
use mathlib.Core.Path.{◌≡◌, ap, ◌∙◌}
use Prim.Native.Nat.{ℕ, ◌+◌, ◌-◌, ◌*◌}
use native.Mathlib.Omega.{arith}
use Rattle.fields.specs.Layout.{start_of}
use Rattle.customer_head.specs.Header.{customer_layout}
use Rattle.customer_head.proofs.CustomerLayout.{width_first, width_holiday, width_price, width_none, start_first, start_holiday, start_price, start_none}
use Rattle.customer_head.proofs.Firsts.{starts, widths}
use Rattle.customer_head.proofs.span_of.Goals as goal

pub returns-then-k-lt-FIRST_FIELDS : goal.returns-then-k-lt-FIRST_FIELDS
returns-then-k-lt-FIRST_FIELDS c es =
    let a = c.args in
    (λ i. record { start = starts a.k (omega arith) i; width = widths a.k (omega arith) i })
    ∙ (λ i. record { start = start_first es a.head.now a.k (omega arith) i; width = width_first es a.head.now a.k (omega arith) i })

pub returns-then-k-n : goal.returns-then-k-n
returns-then-k-n c es =
    let a = c.args in
    λ i. record {
      start = start_holiday es a.head.now a.k (omega arith) (omega arith) i;
      width = width_holiday es a.head.now a.k (omega arith) (omega arith) i;
    }

pub returns-then-j-lt-PRICE_FIELDS : goal.returns-then-j-lt-PRICE_FIELDS
returns-then-j-lt-PRICE_FIELDS c es =
    let a = c.args in
    let n = c.holiday_count-n.ensures.0 in
    let start = ap (λ (n : ℕ). 63 + 2 * n + 4 * (a.k - 12 - n)) n ∙ start_price es a.head.now a.k (omega arith) (omega arith) in
    λ i. record { start = start i; width = width_price es a.head.now a.k (omega arith) (omega arith) i }

pub returns : goal.returns
returns c es =
    let a = c.args in
    let start = start_none es a.head.now a.k (omega arith) in
    let at : 63 + 2 * c.holiday_count-n.result + 16 ≡ start_of (customer_layout es a.head.now) a.k = omega arith in
    λ i. record { start = at i; width = width_none es a.head.now a.k (omega arith) i }
