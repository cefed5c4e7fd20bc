-- Laws of the charges: the sum split at the parts of a cent gives the same charge, and g split at hundreds the same
-- floor; products are small; a charge is the exact value rounded with half a cent up, the floor is the smallest, and a
-- smaller capacity figure never costs more.
-- Assumes nothing.
use mathlib.Core.Path.{◌≡◌, ap, ap₂}
use mathlib.Core.Bool.{Bool, true, false}
use Prim.Native.Nat.{ℕ, ◌+◌, ◌-◌, ◌*◌, ◌/◌, ◌%◌, ◌≤◌, ◌<◌, max}
use native.Mathlib.Nat.{mul-le-mul_right, mul_comm}
use native.Mathlib.Omega.{arith}
use Rattle.ranges.proofs.Products.{product, split_at}
use Rattle.answers.specs.Ruling.{capacity_most, energy_most, LegalEdition}
use Rattle.answers.specs.declared.Edition.{Edition}
use Rattle.answers.specs.Edition.{whole_share}
use Rattle.tariff.specs.declared.Row.{Row}
use Rattle.tariff.specs.declared.Prices.{Prices}
use Rattle.tariff.specs.declared.Rates.{Rates}
use Rattle.tariff.specs.declared.Figures.{Figures}
use Rattle.tariff.specs.Prices.{LegalRow, LegalPrices}
use Rattle.tariff.specs.Charges.{few_hours, row_of, cent_parts, capacity_parts, parts_for, charge_for, charge_most, general, reduced, floor_of, charge}

module _ (power : ℕ) (row : Row) (sum : ℕ) where
  pub charge_split :
      sum / cent_parts * row.energy + (capacity_parts * power * row.capacity + sum % cent_parts * row.energy + cent_parts / 2) / cent_parts
      ≡ charge_for power row sum
  unfolding charge_for
  charge_split = omega (arith, split_at sum row.energy (capacity_parts * power * row.capacity + cent_parts / 2) cent_parts (omega arith))

  -- a charge is its exact value rounded, half a cent up: twice the exact value lies from 2 c - 1 to below 2 c + 1 (Rule
  -- 7.1)
  pub charge_rounded :
      (2 * cent_parts * charge_for power row sum ≤ 2 * parts_for power row sum + cent_parts)
      × (2 * parts_for power row sum + cent_parts < 2 * cent_parts * (charge_for power row sum + 1))
  unfolding charge_for
  charge_rounded = (omega arith, omega arith)

-- the products of a charge are small
pub record Small (power l a sum : ℕ) : Type 0 where
  pub peak : capacity_parts * power * l ≤ 1717986918000000000
  pub most : sum / cent_parts * a ≤ 230584300921350000
  pub rest : sum % cent_parts * a ≤ 200000000000

pub small : (power l a sum : ℕ) → power ≤ 4294967295 → l ≤ capacity_most → a ≤ energy_most → sum < 18446744073709551616 → Small power l a sum
small power l a sum hp hl ha hs =
    record {
      peak = omega (arith, product (capacity_parts * power) l {m = 17179869180000} {n = capacity_most} (omega arith) hl);
      most = omega (arith, product (sum / cent_parts) a {m = 4611686018427} {n = energy_most} (omega arith) ha);
      rest = omega (arith, product (sum % cent_parts) a {m = cent_parts} {n = energy_most} (omega arith) ha);
    }

-- so no charge is above the most
pub charge_most_law :
    (power : ℕ) (row : Row) (sum : ℕ)
    → power ≤ 4294967295
    → LegalRow row
    → sum < 18446744073709551616
    → charge_for power row sum ≤ charge_most
charge_most_law power row sum hp h hs =
    let s = small power row.capacity row.energy sum hp h.capacity h.energy hs in
    omega (arith, charge_split power row sum)

-- each row of legal prices is legal
row_in : (p : Prices) (low : Bool) → LegalPrices p → LegalRow (row_of p low)
row_in p true h = h.few
row_in p false h = h.many

pub general_most :
    (ed : Edition) (f : Figures) (r : Rates)
    → LegalPrices r.prices
    → f.peak ≤ 4294967295
    → f.sum < 18446744073709551616
    → general ed f r ≤ charge_most
unfolding general
general_most ed f r h hp hs = charge_most_law f.peak _ f.sum hp (row_in r.prices (few_hours ed f) h) hs

-- the floor is the edition's percentage of g or more, and no smaller whole number of cents is (Rule 7.4)
pub floor_least :
    (ed : Edition) (g : ℕ)
    → (ed.floor * g ≤ whole_share * floor_of ed g) × ((k : ℕ) → k < floor_of ed g → whole_share * k < ed.floor * g)
unfolding floor_of
floor_least ed g = (omega arith, λ k l. omega arith)

-- under a legal edition the floor is no more than g itself
pub floor_under : (ed : Edition) (g : ℕ) → LegalEdition ed → floor_of ed g ≤ g
unfolding floor_of
floor_under ed g legal = omega (arith, mul-le-mul_right g legal.floor)

-- g split at hundreds gives the same floor
pub floor_split :
    (ed : Edition) (g : ℕ)
    → g / whole_share * ed.floor + (g % whole_share * ed.floor + (whole_share - 1)) / whole_share ≡ floor_of ed g
unfolding floor_of
floor_split ed g =
    omega (arith, split_at g ed.floor (whole_share - 1) whole_share (omega arith), mul_comm ed.floor g)

pub charge_mono : (a b : ℕ) (row : Row) (sum : ℕ) → a ≤ b → charge_for a row sum ≤ charge_for b row sum
unfolding charge_for
charge_mono a b row sum h =
    let m : capacity_parts * a * row.capacity ≤ capacity_parts * b * row.capacity = mul-le-mul_right row.capacity (omega arith) in
    omega arith

-- with the edition's hours of use and more the option has no effect: two rates with the same prices give the same
-- charge (Rule 7.3)
pub option_idle : (ed : Edition) (f : Figures) (r s : Rates) → r.prices ≡ s.prices → few_hours ed f ≡ false → charge ed f r ≡ charge ed f s
unfolding charge reduced general
option_idle ed f r s p h = simp (p, h)

-- the larger of reduced charge and floor is the charge
pub charge_of : (ed : Edition) (f : Figures) (r : Rates) {own g : ℕ} → own ≡ reduced ed f r → g ≡ general ed f r → max own (floor_of ed g) ≡ charge ed f r
unfolding charge
charge_of ed f r a e = ap₂ max a (ap (floor_of ed) e)
