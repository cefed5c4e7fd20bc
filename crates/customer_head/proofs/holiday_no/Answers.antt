-- `customer_head::holiday_no` meets its contract, the test of an entry of the list.
-- Assumes nothing.
use mathlib.Core.Path.{ap, ◌∙◌}
use mathlib.Core.Bool.{Bool}
use native.Mathlib.Omega.{arith}
use Rattle.ranges.specs.Ranges.{number_if}
use Rattle.holidays.specs.Holidays.{bad_holiday}
use Rattle.customer_head.proofs.CustomerLayout.{holiday_is}
use Rattle.customer_head.proofs.holiday_no.Goals as goal

pub returns : goal.returns
returns c =
    let day = c.two_at-day.ensures ∙ holiday_is _ _ (omega arith) in
    let last = c.holiday_before-last.ensures in
    let year = c.two_at.ensures in
    c.number_if.ensures ∙ ap (λ (t : Bool). number_if t 3) c.bad_holiday.ensures ∙ (λ i. number_if (bad_holiday (year i) (last i) (day i)) 3)
