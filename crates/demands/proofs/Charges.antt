-- The charges of the definitions are those of specs/Charges.
-- Assumes nothing.
use mathlib.Core.Path.{◌≡◌, refl}
use mathlib.Core.Bool.{true, false}
use Prim.Native.Nat.{ℕ, ◌*◌}
use native.Mathlib.Omega.{arith}
use borrow.Author.Tests.{lt-ltb, le-ltb}
use Rattle.answers.specs.declared.Edition.{Edition}
use Rattle.tariff.specs.declared.Row.{Row}
use Rattle.tariff.specs.declared.Rates.{Rates}
use Rattle.tariff.specs.declared.Figures.{Figures}
use Rattle.tariff.specs.Charges.{few_hours, charge_for, general, reduced, floor_of, charge}
use Rattle.tariff.proofs.Charges.{floor_least}
use Rattle.demands.specs.Charges.{Rounded, Few, Many, GeneralIs, ReducedIs, ChargeIs, ToTheCent}

rounded : (power : ℕ) (row : Row) (sum : ℕ) → Rounded power row sum (charge_for power row sum)
unfolding charge_for
rounded power row sum = record { low = omega arith; high = omega arith }

module _ (ed : Edition) (f : Figures) (r : Rates) where
  few : Few ed f r → few_hours ed f ≡ true
  few h = lt-ltb f.sum (4 * ed.hours * f.peak) h

  many : Many ed f r → few_hours ed f ≡ false
  many h = le-ltb f.sum (4 * ed.hours * f.peak) h

  general_is : GeneralIs ed f r (general ed f r)
  unfolding general
  general_is =
      record {
        few = λ h. rw (few h) (rounded f.peak r.prices.few f.sum);
        many = λ h. rw (many h) (rounded f.peak r.prices.many f.sum);
      }

  reduced_is : ReducedIs ed f r (reduced ed f r)
  unfolding reduced
  reduced_is =
      record {
        few = λ h e. rw (few h, e) (rounded f.high r.prices.few f.sum);
        chosen = λ h e. rw (few h, e) (rounded f.high r.prices.many f.sum);
        many = λ h. rw (many h) (rounded f.high r.prices.many f.sum);
      }

  charge_is : ChargeIs ed f r (general ed f r) (charge ed f r)
  unfolding charge
  charge_is =
      record {
        reduced = reduced ed f r;
        floor = floor_of ed (general ed f r);
        reduced_is = reduced_is;
        share = (floor_least ed (general ed f r)).0;
        least = (floor_least ed (general ed f r)).1;
        larger = refl;
      }

pub to_the_cent : ToTheCent
to_the_cent = record { general_is = general_is; charge_is = charge_is }
