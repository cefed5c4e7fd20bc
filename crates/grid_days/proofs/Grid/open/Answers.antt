-- `grid_days::Grid::open` meets its contract: it opens by the edition of the year.
-- Assumes nothing.
use Rattle.grid_days.proofs.Grid.open.Goals as goal

pub returns : goal.returns
returns c = rw c.pick.ensures at c.open_by.ensures
