-- `grid_curves::season_of` meets its contract: far behind every period there is winter.
-- Assumes nothing.
use mathlib.Core.Path.{sym}
use native.Mathlib.Omega.{arith}
use Rattle.periods.proofs.Periods.{period_far}
use Rattle.grid_curves.proofs.season_of.Goals as goal

pub returns-in-None : goal.returns-in-None
returns-in-None c = sym (period_far _ _ (omega (arith, c.in-None.ensures)))
