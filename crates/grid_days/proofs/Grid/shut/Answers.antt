-- `grid_days::Grid::shut` meets its contract: the one state of a refused opening.
-- Assumes nothing.
use mathlib.Core.Path.{refl}
use Rattle.grid_days.proofs.Grid.shut.Goals as goal

pub returns : goal.returns
returns c = refl
