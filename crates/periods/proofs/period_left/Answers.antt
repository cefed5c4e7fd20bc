-- `periods::period_left` meets its contract: the days after the period day's date in its month.
-- Assumes nothing.
use Rattle.periods.proofs.Periods.{period_left_law}
use Rattle.periods.proofs.period_left.Goals as goal

pub returns : goal.returns
returns c = period_left_law _ _ c.month_left.ensures c.period_date-date.ensures
