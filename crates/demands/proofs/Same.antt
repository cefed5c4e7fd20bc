-- What a legal year is answered by a module that meets the demands: M and S are those of its readings.
-- Assumes nothing.
use mathlib.Core.Path.{◌≡◌, refl, sym, ap, ◌∙◌}
use mathlib.Core.Bool.{cond}
use mathlib.Core.Logic.{◌⊎◌, ⊎_elim}
use mathlib.Core.List.{List}
use Prim.Native.Nat.{ℕ}
use native.Mathlib.Decide.{ℕ_discrete}
use native.Mathlib.Omega.{arith}
use lib.Dec.{eqb}
use lib.ListN.{get_or}
use Rattle.ranges.specs.Limits.{Within}
use Rattle.answers.specs.declared.Edition.{Edition}
use Rattle.answers.specs.Said.{Said}
use Rattle.tariff.specs.declared.Rates.{Rates}
use Rattle.tariff.specs.declared.Figures.{Figures}
use Rattle.tariff.proofs.Answered.{number_is}
use Rattle.terms.specs.Basis.{Basis, basis_rates, basis_edition}
use Rattle.customer.specs.Answers.{decide_answer}
use Rattle.customer.specs.Demand.{LegalYear, basis_figures}
use Rattle.demands.specs.Module.{Module, ours}
use Rattle.demands.specs.Refusals.{year_column}
use Rattle.demands.specs.Demands.{Demands}
use Rattle.demands.specs.Fair.Given.{whole}
use Rattle.demands.specs.Wrong.{sum_said}
use Rattle.demands.proofs.Carried.{carried, said_is}
use Rattle.demands.proofs.Fair.{fairness, given_one}
use Rattle.demands.proofs.Demands.{met}
use Rattle.demands.proofs.Alike.{nothing_else}

-- a number that a legal year is answered
by_number : (P : ℕ → Type 0) → P 0 → P 8 → P 9 → P 10 → P 11 → (n : ℕ) → (n ≡ 0) ⊎ Within 8 11 n → P n
by_number P zero eight nine ten eleven n = ⊎_elim (λ e. rw e zero) (λ w. go w (ℕ_discrete n 8) (ℕ_discrete n 9) (ℕ_discrete n 10))
  where
    go : Within 8 11 n → Dec (n ≡ 8) → Dec (n ≡ 9) → Dec (n ≡ 10) → P n
    go w (yes e) b c = rw e eight
    go w (no a) (yes e) c = rw e nine
    go w (no a) (no b) (yes e) = rw e ten
    go w (no a) (no b) (no c) = let e : n ≡ 11 = omega (arith, w.from, w.to) in rw e eleven

-- the peak and the sum among its figures, whatever the number is
abbrev pub peak_said : Said → ℕ
peak_said a = get_or a.figures (cond (eqb a.number 0) 2 1) 0

module _ (ed : Edition) (f : Figures) (r : Rates) where
  abbrev listed : ℕ → Said
  listed n = record { number = n; figures = year_column ed f r n }

  pub column_said : (n : ℕ) → (n ≡ 0) ⊎ Within 8 11 n → (sum_said (listed n) ≡ f.sum) × (peak_said (listed n) ≡ f.peak)
  column_said =
      by_number (λ n. (sum_said (listed n) ≡ f.sum) × (peak_said (listed n) ≡ f.peak))
      (refl, refl) (refl, refl) (refl, refl) (refl, refl) (refl, refl)

module _ (m : Module) (d : Demands m) (k : Basis) (xs : List ℕ) (l : LegalYear k xs) where
  ours_number : ((decide_answer k xs).number ≡ 0) ⊎ Within 8 11 (decide_answer k xs).number
  ours_number = fairness.answered k xs (decide_answer k xs) l whole

  -- it is the number with what the column lists
  pub year_said : m.decide k xs ≡ listed (basis_edition k) (basis_figures k xs) (basis_rates k) (decide_answer k xs).number
  year_said =
      let f = basis_figures k xs in
      let judged = given_one k l whole in
      (nothing_else m ours d met).decide k xs ∙ judged ∙ said_is _ _ _ (carried.judge (basis_edition k) f (basis_rates k)) (sym (number_is judged))

  pub sum_said_law : sum_said (m.decide k xs) ≡ (basis_figures k xs).sum
  sum_said_law = ap sum_said year_said ∙ (column_said (basis_edition k) (basis_figures k xs) (basis_rates k) _ ours_number).0

  pub peak_said_law : peak_said (m.decide k xs) ≡ (basis_figures k xs).peak
  peak_said_law = ap peak_said year_said ∙ (column_said (basis_edition k) (basis_figures k xs) (basis_rates k) _ ours_number).1
