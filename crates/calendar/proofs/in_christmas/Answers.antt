-- `calendar::in_christmas` meets its contract: 24 December is the eighth day from the end.
-- Assumes nothing.
use Rattle.day_kinds.proofs.Rules.{christmas_by}
use Rattle.calendar.proofs.in_christmas.Goals as goal

pub returns : goal.returns
returns c = christmas_by _ _ _ c.year_days.ensures
