-- `dates::last_sunday` meets its contract: from the month's last day back to a Sunday.
-- Assumes nothing.
use native.Mathlib.Omega.{arith}
use mathlib.Core.Path.{◌≡◌, sym, ap, ◌∙◌}
use Rattle.ranges.specs.Limits.{Within}
use Rattle.ranges.proofs.Bools.{within}
use Rattle.dates.specs.Dates.{days_to, weekday_of}
use Rattle.dates.proofs.Sundays.{no_sunday, sunday_is, week_in}
use Rattle.dates.proofs.last_sunday.Goals.{After-weekday, Else-month}
use Rattle.dates.proofs.last_sunday.Goals as goal

-- the month is one of twelve
month_in : (e : Else-month) → Within 1 12 e.args.month
month_in e = (within 1 12 _).0 e.if-month.false

-- from the month's last day
back :
    (e : After-weekday)
    → let a = e.args in
    (weekday_of a.year (days_to a.year a.month) ≡ e.weekday.result) × (days_to a.year a.month ≡ e.days_to-end.result)
back e =
    let end = e.days_to-end.ensures.0 in
    (ap (weekday_of _) (sym end) ∙ sym e.weekday.ensures, sym end)

pub overflow_sub-result : goal.overflow_sub-result
overflow_sub-result c =
    let a = c.args in
    omega (arith, (back c).1, week_in a.year a.month c.if-month.false)

pub returns : goal.returns
returns c =
    let a = c.args in
    rw ((back c).0, (back c).1) at (sunday_is a.year a.month c.if-month.false)

pub returns-then-month : goal.returns-then-month
returns-then-month c = no_sunday _ _ c.if-month.true

pub days_to-end-requires : goal.days_to-end-requires
days_to-end-requires c = omega (arith, (month_in c).to)
