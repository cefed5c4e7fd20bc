-- `dates::month_left` meets its contract: the days to the month's end, less those that have passed.
-- Assumes nothing.
use native.Mathlib.Omega.{arith}
use mathlib.Core.Path.{◌≡◌, ap, ◌∙◌}
use Rattle.dates.specs.Dates.{days_to, month_of, month_left}
use Rattle.dates.proofs.Months.{month_range}
use Rattle.dates.proofs.month_left.Goals.{After-days_to-end}
use Rattle.dates.proofs.month_left.Goals as goal

-- the end of the day's month
ends : (e : After-days_to-end) → let a = e.args in e.days_to-end.result ≡ days_to a.year (month_of a.year a.day)
ends e = e.days_to-end.ensures.0 ∙ ap (days_to _) e.month.ensures

pub returns : goal.returns
unfolding month_left
returns c = omega (arith, ends c.before, c.saturating_sub.ensures)

pub days_to-end-requires : goal.days_to-end-requires
days_to-end-requires c = let r = month_range c.args.year c.args.day in omega arith
