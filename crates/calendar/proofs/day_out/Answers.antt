-- `calendar::day_out` meets its contract: the code's two orders are the definition's.
-- Assumes nothing.
use Rattle.calendar.specs.Answer.{day_out}
use Rattle.calendar.proofs.day_out.Goals as goal

pub returns : goal.returns
unfolding day_out
returns c = rw c.year_days.ensures
