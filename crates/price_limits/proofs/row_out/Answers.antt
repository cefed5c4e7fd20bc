-- `price_limits::row_out` meets its contract: it tests the two prices.
-- Assumes nothing.
use mathlib.Core.Path.{ap₂}
use mathlib.Core.Bool.{◌||◌}
use Rattle.tariff.specs.Prices.{row_out}
use Rattle.price_limits.proofs.row_out.Goals as goal

pub returns : goal.returns
unfolding row_out
returns c = ap₂ ◌||◌ c.capacity_out.ensures c.energy_out.ensures
