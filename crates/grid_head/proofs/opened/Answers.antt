-- `grid_head::opened` meets its contract: what opening hands back, over the year and the level that the header holds.
-- Assumes nothing.
use mathlib.Core.Path.{◌∙◌}
use Rattle.editions.specs.Editions.{edition_of}
use Rattle.grid_days.specs.Days.{open_grid}
use Rattle.grid_head.proofs.opened.Goals as goal

pub returns : goal.returns
returns c =
    let year = c.two_at.ensures in
    let level = c.byte_at.ensures in
    c.open-step.ensures.1 ∙ (λ i. open_grid (edition_of c.args.editions (year i)) (year i) (level i))
