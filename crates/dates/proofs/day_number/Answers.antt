-- `dates::day_number` meets its contract, a law for each return.
-- Assumes nothing.
use mathlib.Core.Path.{◌≡◌}
use Prim.Native.Nat.{◌+◌, ◌-◌}
use native.Mathlib.Omega.{arith}
use borrow.Author.Tests.{ltb-false}
use lib.Dec.{ltb}
use Rattle.ranges.specs.Limits.{Within}
use Rattle.ranges.proofs.Bools.{neither, within}
use Rattle.dates.specs.Dates.{month_days}
use Rattle.dates.proofs.Numbers.{no_month, long, no_day_law, numbered}
use Rattle.dates.proofs.day_number.Goals.{After-days_to-end, Else-month}
use Rattle.dates.proofs.day_number.Goals as goal

-- the month is one of twelve
month_in : (e : Else-month) → Within 1 12 e.args.month
month_in e = (within 1 12 _).0 e.if-month.false

last : (e : After-days_to-end) → let a = e.args in e.days_to-end.result ≡ e.days_to-before.result + month_days a.year a.month
last e = let a = e.args in long a.year a.month a.day e.if-month.false e.days_to-before.ensures.0 e.days_to-end.ensures.0

pub returns-then-day-end : goal.returns-then-day-end
returns-then-day-end c =
    no_day_law _ _ _ c.if-month.false c.days_to-before.ensures.0 c.days_to-end.ensures.0 c.if-day-end.true

pub overflow_add-result : goal.overflow_add-result
overflow_add-result c =
    let d = c.args.day in
    let n = c.days_to-end.result - c.days_to-before.result in
    omega (arith, ltb-false n d (neither (ltb d 1) (ltb n d) c.if-day-end.false).1, c.days_to-end.ensures.1, last c.before)

pub returns : goal.returns
returns c =
    numbered _ _ _ c.if-month.false c.days_to-before.ensures.0 c.days_to-end.ensures.0 c.if-day-end.false

pub returns-then-month : goal.returns-then-month
returns-then-month c = no_month _ _ _ c.if-month.true

pub overflow_sub-month : goal.overflow_sub-month
overflow_sub-month c = (month_in c).from

pub days_to-before-requires : goal.days_to-before-requires
days_to-before-requires c = omega (arith, (month_in c).to)

pub days_to-end-requires : goal.days_to-end-requires
days_to-end-requires c = omega (arith, (month_in c.before).to)

pub overflow_sub-end : goal.overflow_sub-end
overflow_sub-end c = omega (arith, last c)
