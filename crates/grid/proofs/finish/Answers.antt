-- `grid::finish` meets its contract: the highest of the curves is their peak.
-- Assumes nothing.
use Rattle.grid.proofs.finish.Goals as goal

pub returns : goal.returns
returns c =
    c.finish_by.ensures _ c.by_season-seasons.ensures c.highest.ensures
