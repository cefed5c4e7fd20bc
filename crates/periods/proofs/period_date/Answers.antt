-- `periods::period_date` meets its contract: September to December of one year, then January to August of the next.
-- Assumes nothing.
use native.Mathlib.Omega.{arith}
use Rattle.periods.proofs.Periods.{period_early, period_late}
use Rattle.periods.proofs.period_date.Goals as goal

pub returns-then-k-le-LATE_DAYS : goal.returns-then-k-le-LATE_DAYS
returns-then-k-le-LATE_DAYS c = period_early _ _ _ _ c.years_back-start.ensures c.year_days.ensures (omega arith)

pub returns-else-k-le-LATE_DAYS : goal.returns-else-k-le-LATE_DAYS
returns-else-k-le-LATE_DAYS c = period_late _ _ _ c.years_back.ensures (omega arith)
