-- When a row of prices, and a price list of two rows, is within its limits: as a test that computes, and as plain
-- inequalities. Rules 2.1 and 2.5.
use Rattle.std.specs.Prelude.{Bool, ◌||◌, ◌≤◌}
use Rattle.answers.specs.Ruling.{capacity_most, energy_most, capacity_out, energy_out}
use Rattle.tariff.specs.declared.Row.{Row}
use Rattle.tariff.specs.declared.Prices.{Prices}

-- one of the two prices of the row is above its limit (Rule 2.1)
unfoldable pub row_out : Row → Bool
row_out row = capacity_out row.capacity || energy_out row.energy

-- answer 6: one of the four prices of the list is above its limit
unfoldable pub prices_out : Prices → Bool
prices_out p = row_out p.few || row_out p.many

-- a row, and a price list, within their limits
pub record LegalRow (row : Row) : Type 0 where
  pub capacity : row.capacity ≤ capacity_most
  pub energy : row.energy ≤ energy_most

pub record LegalPrices (p : Prices) : Type 0 where
  pub few : LegalRow p.few
  pub many : LegalRow p.many
