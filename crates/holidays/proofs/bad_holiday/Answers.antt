-- `holidays::bad_holiday` meets its contract: the code's two orders are the definition's.
-- Assumes nothing.
use Rattle.holidays.proofs.bad_holiday.Goals as goal

pub returns : goal.returns
returns c = rw c.year_days.ensures
