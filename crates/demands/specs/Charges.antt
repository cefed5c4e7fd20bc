-- The charges of a year with the figures f under the rates r (prices and option) by an edition ed, to the cent, said by
-- ≤ and < and not by the divisions that the definitions compute with. M is `f.peak`, H `f.high`, S `f.sum`. Rules
-- 6.6 and 7.1 to 7.5.
use Rattle.std.specs.Prelude.{◌≡◌, true, false, ℕ, ◌+◌, ◌*◌, ◌≤◌, ◌<◌, max}
use Rattle.answers.specs.declared.Edition.{Edition}
use Rattle.tariff.specs.declared.Row.{Row}
use Rattle.tariff.specs.declared.Rates.{Rates}
use Rattle.tariff.specs.declared.Figures.{Figures}
use Rattle.tariff.specs.Charges.{general, charge}

-- Rule 7.1: the whole number of cents next to (4,000 P L + S A) / 4,000,000, where P is the capacity figure `power` in
-- W, and L and A are a row's prices; of two that are equally near it is the higher one
pub record Rounded (power : ℕ) (row : Row) (sum cents : ℕ) : Type 0 where
  pub low : 4000000 * cents ≤ 4000 * power * row.capacity + sum * row.energy + 2000000
  pub high : 4000 * power * row.capacity + sum * row.energy + 2000000 < 4000000 * (cents + 1)

module _ (ed : Edition) (f : Figures) (r : Rates) where
  -- Rule 6.6: hours of use are fewer than the edition's where S is below four times these hours times M
  abbrev pub Few : Type 0
  Few = f.sum < 4 * ed.hours * f.peak

  abbrev pub Many : Type 0
  Many = 4 * ed.hours * f.peak ≤ f.sum

  -- g (Rule 7.2): by M, with the low row for few hours, else the high row
  pub record GeneralIs (g : ℕ) : Type 0 where
    pub few : Few → Rounded f.peak r.prices.few f.sum g
    pub many : Many → Rounded f.peak r.prices.many f.sum g

  -- r (Rule 7.3): by H, with the row of g; but with the option the high row for few hours, too
  pub record ReducedIs (cents : ℕ) : Type 0 where
    pub few : Few → r.option ≡ false → Rounded f.high r.prices.few f.sum cents
    pub chosen : Few → r.option ≡ true → Rounded f.high r.prices.many f.sum cents
    pub many : Many → Rounded f.high r.prices.many f.sum cents

  -- c (Rules 7.4 and 7.5): the larger of r and the floor, which is the smallest whole number of cents that is no less
  -- than the edition's percentage of g
  pub record ChargeIs (g c : ℕ) : Type 0 where
    pub reduced : ℕ
    pub floor : ℕ
    pub reduced_is : ReducedIs reduced
    pub share : ed.floor * g ≤ 100 * floor
    pub least : (k : ℕ) → k < floor → 100 * k < ed.floor * g
    pub larger : c ≡ max reduced floor

-- the charges of tariff, specs/Charges, are these
pub record ToTheCent : Type 0 where
  pub general_is : (ed : Edition) (f : Figures) (r : Rates) → GeneralIs ed f r (general ed f r)
  pub charge_is : (ed : Edition) (f : Figures) (r : Rates) → ChargeIs ed f r (general ed f r) (charge ed f r)
