-- `dates::days_to` meets its contract: the table is the sum of the months, and the leap day counts from March on.
-- Assumes nothing.
use native.Mathlib.Omega.{arith}
use Rattle.dates.proofs.Months.{days_first, days_later}
use Rattle.dates.proofs.days_to.Goals as goal

pub overflow_add-result : goal.overflow_add-result
overflow_add-result c =
    let a = c.args in
    omega (arith, days_later a.year a.month _ (omega arith) (omega arith) c.leap_day.ensures.0)

pub returns-then-month-lt2 : goal.returns-then-month-lt2
returns-then-month-lt2 c = days_first _ _ (omega arith)

pub returns-else-month-lt2 : goal.returns-else-month-lt2
returns-else-month-lt2 c = days_later _ _ _ (omega arith) (omega arith) c.leap_day.ensures.0
