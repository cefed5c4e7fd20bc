-- `grid::windows` meets its contract: it works by the edition of the year.
-- Assumes nothing.
use Rattle.grid.proofs.windows.Goals as goal

pub returns : goal.returns
returns c = rw c.pick.ensures at c.windows_by.ensures
