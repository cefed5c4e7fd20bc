-- `periods::period_season` meets its contract: the season of the period day's date.
-- Assumes nothing.
use Rattle.periods.proofs.Periods.{period_season_law}
use Rattle.periods.proofs.period_season.Goals as goal

pub returns : goal.returns
returns c = period_season_law _ _ c.season.ensures c.period_date-date.ensures
