-- `editions::todays` meets its contract: today's edition at the first place, and none at the others.
-- Assumes nothing.
use Rattle.editions.proofs.todays.Goals as goal

pub returns : goal.returns
returns c = rw c.today.ensures
