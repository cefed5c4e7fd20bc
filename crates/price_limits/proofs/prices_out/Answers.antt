-- `price_limits::prices_out` meets its contract: it tests the two rows.
-- Assumes nothing.
use mathlib.Core.Path.{ap₂}
use mathlib.Core.Bool.{◌||◌}
use Rattle.tariff.specs.Prices.{prices_out}
use Rattle.price_limits.proofs.prices_out.Goals as goal

pub returns : goal.returns
unfolding prices_out
returns c = ap₂ ◌||◌ c.row_out.ensures c.row_out-2.ensures
