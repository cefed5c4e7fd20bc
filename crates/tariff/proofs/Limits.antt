-- A price list is refused exactly when it is not within its limits, and a legal level with legal prices passes both
-- tests.
-- Assumes nothing.
use mathlib.Core.Path.{◌≡◌}
use mathlib.Core.Bool.{false}
use mathlib.Core.Logic.{◌↔◌}
use borrow.Author.Tests.{le-ltb, ltb-false}
use Rattle.ranges.proofs.Bools.{neither}
use Rattle.answers.specs.Ruling.{level_out, capacity_out, energy_out}
use Rattle.answers.proofs.Laws.{level_of}
use Rattle.tariff.specs.declared.Row.{Row}
use Rattle.tariff.specs.declared.Prices.{Prices}
use Rattle.tariff.specs.declared.Rates.{Rates}
use Rattle.tariff.specs.Prices.{row_out, prices_out, LegalRow, LegalPrices}
use Rattle.tariff.specs.Rows.{LegalRates}

row_legal : (row : Row) → (row_out row ≡ false) ↔ LegalRow row
unfolding row_out
row_legal row = (
  λ e.
      let n = neither (capacity_out row.capacity) (energy_out row.energy) e in
      record { capacity = ltb-false _ _ n.0; energy = ltb-false _ _ n.1 },
  λ h. simp (le-ltb _ _ h.capacity, le-ltb _ _ h.energy),
)

pub prices_legal : (p : Prices) → (prices_out p ≡ false) ↔ LegalPrices p
unfolding prices_out
prices_legal p = (
  λ e.
      let n = neither (row_out p.few) (row_out p.many) e in
      record { few = (row_legal p.few).0 n.0; many = (row_legal p.many).0 n.1 },
  λ h. simp ((row_legal p.few).1 h.few, (row_legal p.many).1 h.many),
)

pub rates_legal : {r : Rates} → level_out r.level ≡ false → prices_out r.prices ≡ false → LegalRates r
rates_legal l q = record { legal_level = (level_of _).0 l; legal_prices = (prices_legal _).0 q }

pub legal_in : {r : Rates} → LegalRates r → (level_out r.level ≡ false) × (prices_out r.prices ≡ false)
legal_in h = ((level_of _).1 h.legal_level, (prices_legal _).1 h.legal_prices)
