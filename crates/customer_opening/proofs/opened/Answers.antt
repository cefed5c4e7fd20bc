-- `customer_opening::opened` meets its contract, what opening hands back, over the bytes that the header holds.
-- Assumes nothing.
use mathlib.Core.Path.{◌≡◌, sym, ap, ◌∙◌}
use Prim.Native.Nat.{ℕ, ◌-◌}
use native.Mathlib.Omega.{arith}
use lib.Dec.{eqb}
use lib.ListN.{length, take, drop}
use lib.Seq.{length-take-le}
use Rattle.terms.specs.Basis.{basis}
use Rattle.customer_days.specs.Days.{open_customer}
use Rattle.customer_head.specs.Header.{holidays_of}
use Rattle.customer_opening.specs.Opening.{opened_in}
use Rattle.customer_head.proofs.CustomerLayout.{sheet_held}
use borrow.Author.Rules.{rules}
use Rattle.customer_opening.proofs.opened.Goals.{After-holidays_of-list}
use Rattle.customer_opening.proofs.opened.Goals as goal

pub slice_bounds-open-end-2 : goal.slice_bounds-open-end-2
slice_bounds-open-end-2 c =
    let long : length c.holidays_of-list.result ≡ 40 = search rules in
    sym (length-take-le c.holiday_count-n.result c.holidays_of-list.result (omega arith))

-- the holidays, as many as the header counts
listed_are :
    (e : After-holidays_of-list)
    → take e.holiday_count-n.result e.holidays_of-list.result ≡ holidays_of e.args.head.now
listed_are e = ap (λ (n : ℕ). take n e.holidays_of-list.result) e.holiday_count-n.ensures.0 ∙ e.holidays_of-list.ensures

pub returns : goal.returns
unfolding opened_in
returns c =
    let w = goal.at.returns c in
    let a = c.args in
    let b = a.head.now in
    let from = c.min-from.ensures in
    let to = c.min-to.ensures in
    let sheet = (λ i. take (to i - from i) (drop (from i) b)) ∙ sheet_held b in
    let prices = c.prices_of-prices.ensures in
    let option = c.byte_at-option.ensures in
    c.open-step.ensures.state ∙ (λ i. open_customer (basis a.editions (sheet i) (listed_are w.After-holidays_of-list i) (prices i) (eqb (option i) 1)))
