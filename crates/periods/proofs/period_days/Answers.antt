-- `periods::period_days` meets its contract: 122 days of autumn, and the rest of the next year.
-- Assumes nothing.
use Rattle.periods.proofs.Periods.{period_days_law}
use Rattle.periods.proofs.period_days.Goals as goal

pub returns : goal.returns
returns c = period_days_law _ _ _ c.years_back.ensures c.year_days.ensures
