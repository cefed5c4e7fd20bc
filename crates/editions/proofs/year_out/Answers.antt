-- `editions::year_out` meets its contract: it asks the edition of the year.
-- Assumes nothing.
use Rattle.editions.proofs.year_out.Goals as goal

pub returns : goal.returns
returns c = rw c.pick.ensures at c.lacks_year.ensures
