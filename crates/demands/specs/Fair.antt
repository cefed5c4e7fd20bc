-- What two years with the same M and S have in common, and what an accepted customer pays. `Basis` (terms, specs/Basis)
-- is what a year is decided on: list of editions, sheet, holidays, prices and option. The years that are spoken of,
-- `LegalYear`, `Alike`, `Agree` and `NoneHigher`, stand in customer, specs/Demand; `Agree` and `NoneHigher` compare
-- each in-window quarter of one year with the same quarter of the other. Rule 12.3.
use Rattle.std.specs.Prelude.{◌≡◌, cond, ◌⊎◌, List, ◌∷◌, ℕ, ◌+◌, ◌*◌, ◌≤◌, eqb, length}
use Rattle.ranges.specs.Limits.{Within}
use Rattle.answers.specs.declared.Edition.{Edition}
use Rattle.answers.specs.Ruling.{least_reduction}
use Rattle.answers.specs.Said.{Said}
use Rattle.readings.specs.Days.{taken_days, taken_readings}
use Rattle.tariff.specs.Charges.{general, charge}
use Rattle.tariff.specs.Answers.{payable}
use Rattle.terms.specs.Basis.{Basis, basis_edition, basis_rates}
use Rattle.customer.specs.Demand.{basis_days, LegalYear, Alike, Agree, NoneHigher, basis_figures}
use Rattle.demands.specs.Module.{Module, customer_after}

module _ (m : Module) where
  -- what a year is answered: whole; or by days, once as many were answered 0 as the year has, whether others were
  -- refused in between or not
  pub data Given (k : Basis) (xs : List ℕ) : Said → Type 0 where
    whole : Given k xs (m.decide k xs)
    days :
        (ds : List (List ℕ))
        → taken_readings m.customer_day m.customer_next (m.customer_opened k) ds ≡ xs
        → length (taken_days m.customer_day m.customer_next (m.customer_opened k) ds) ≡ basis_days k
        → Given k xs (m.customer_close (customer_after m k ds))

  -- two complete years with legal readings on one basis, with the same M and the same S, each with its answer, whole or
  -- by days
  pub record TwoYears (k : Basis) (xs ys : List ℕ) (a b : Said) : Type 0 where
    pub first : LegalYear k xs
    pub second : LegalYear k ys
    pub alike : Alike k xs ys
    pub first_given : Given k xs a
    pub second_given : Given k ys b

-- an accepted answer by an edition: its figures begin with c and g, c is at least the edition's percentage of g, and g
-- is above c by at least its least reduction. By today's these are a fifth, and 500 euro (specs/Forms, Numbers).
pub record FairCharge (ed : Edition) (a : Said) : Type 0 where
  pub c : ℕ
  pub g : ℕ
  pub rest : List ℕ
  pub carried : a.figures ≡ c ∷ g ∷ rest
  pub share : ed.floor * g ≤ 100 * c
  pub below : c + least_reduction ed ≤ g

pub record Fairness (m : Module) : Type 0 where
  -- equal readings in all in-window quarters: equal answers, number and figures
  pub same_answer : (k : Basis) (xs ys : List ℕ) (a b : Said) → TwoYears m k xs ys a b → Agree k xs ys → b ≡ a
  -- in each in-window quarter at most the first year's reading: the second customer pays at most what the first does
  pub no_more : (k : Basis) (xs ys : List ℕ) (a b : Said) → TwoYears m k xs ys a b → NoneHigher k xs ys → payable b ≤ payable a
  -- and is accepted if the first is
  pub stays_accepted :
      (k : Basis) (xs ys : List ℕ) (a b : Said)
      → TwoYears m k xs ys a b
      → NoneHigher k xs ys
      → a.number ≡ 0
      → b.number ≡ 0
  -- Rule 7.7: a legal year is answered 0 or 8 to 11, and what is paid is c for 0, g for 8 to 11
  pub answered : (k : Basis) (xs : List ℕ) (a : Said) → LegalYear k xs → Given m k xs a → (a.number ≡ 0) ⊎ Within 8 11 a.number
  pub pays :
      (k : Basis) (xs : List ℕ) (a : Said)
      → LegalYear k xs
      → Given m k xs a
      → payable a
      ≡ cond (eqb a.number 0) (charge (basis_edition k) (basis_figures k xs) (basis_rates k)) (general (basis_edition k) (basis_figures k xs) (basis_rates k))
  -- who is accepted pays the floor of g or more, and less than g by the least reduction or more, both of the edition of
  -- the basis' year
  pub accepted_fair : (k : Basis) (xs : List ℕ) (a : Said) → LegalYear k xs → Given m k xs a → a.number ≡ 0 → FairCharge (basis_edition k) a
