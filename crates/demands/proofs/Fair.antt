-- Rule 12.3, taken from `customer`; and that an accepted answer has a charge.
-- Assumes nothing.
use mathlib.Core.Path.{◌≡◌, refl, sym, ap, ◌∙◌}
use mathlib.Core.Logic.{◌⊎◌, inl, inr}
use mathlib.Core.List.{List}
use Prim.Native.Nat.{ℕ}
use native.Mathlib.Omega.{arith}
use Rattle.ranges.specs.Limits.{Within}
use Rattle.answers.specs.declared.Edition.{Edition}
use Rattle.answers.specs.declared.Edition.{Edition}
use Rattle.answers.specs.Ruling.{Level}
use Rattle.answers.specs.Said.{Said, only}
use Rattle.readings.proofs.Runs.{year_run}
use Rattle.sheet.specs.Bytes.{sheet_in}
use Rattle.tariff.specs.Charges.{general, charge}
use Rattle.tariff.specs.Answers.{with_charge, payable, charged_of}
use Rattle.tariff.specs.declared.Rates.{Rates}
use Rattle.tariff.specs.declared.Figures.{Figures}
use Rattle.tariff.specs.Decision.{judge_answer}
use Rattle.tariff.specs.Rows.{LegalRates, JudgeRow}
use Rattle.tariff.specs.Rows.JudgeRow.{two, six, eight, nine, ten, eleven, zero}
use Rattle.tariff.proofs.Answered.{number_is}
use Rattle.tariff.proofs.Exactly.{judge_exactly}
use Rattle.tariff.proofs.Demand.{pays_is}
use Rattle.terms.specs.Basis.{Basis, basis_year, basis_rates, basis_edition}
use Rattle.terms.specs.Opening.{terms_of, customer_open_answer}
use Rattle.terms.proofs.Exactly.{open_legal}
use Rattle.customer.specs.Answers.{judged, decide_answer}
use Rattle.customer.specs.Demand.{LegalYear, basis_figures}
use Rattle.customer_days.proofs.Whole.{days_whole}
use Rattle.customer.proofs.Demand.{whole_one, same_answer, pays_no_more, stays_accepted, accepted_fair}
use Rattle.sheet.specs.Rows.{ReadRow}
use Rattle.sheet.specs.Rows.ReadRow.{zero}
use Rattle.demands.specs.Module.{ours}
use Rattle.demands.specs.Refusals.{year_column}
use Rattle.demands.specs.Fair.{Given, FairCharge, Fairness}
use Rattle.demands.specs.Fair.Given.{whole, days}
use Rattle.demands.proofs.Carried.{carried, said_is}

-- a legal year's level and prices are legal
legal_read : {ed : Edition} {b : List ℕ} → ReadRow ed b 0 → Level (sheet_in b).level
legal_read (zero f y l w) = l

pub legal_opening : (k : Basis) → customer_open_answer k ≡ only 0 → LegalRates (basis_rates k)
legal_opening k o =
    let legal = open_legal k (number_is o) in
    record { legal_level = legal_read legal.read; legal_prices = legal.prices }

pub legal_basis : (k : Basis) (xs : List ℕ) → LegalYear k xs → LegalRates (basis_rates k)
legal_basis k xs l = legal_opening k l.opens

-- under a legal level and legal prices figures are answered 0 or 8 to 11
pub judged_numbers :
    (ed : Edition) (f : Figures) (r : Rates)
    → LegalRates r
    → ((judge_answer ed f r).number ≡ 0) ⊎ Within 8 11 (judge_answer ed f r).number
judged_numbers ed f r l = go ((judge_exactly ed f r _).0 refl)
  where
    go : {n : ℕ} → JudgeRow ed f r n → (n ≡ 0) ⊎ Within 8 11 n
    go (two a) = absurd (a l.legal_level)
    go (six a b) = absurd (b l.legal_prices)
    go (eight h n) = inr (record { from = omega arith; to = omega arith })
    go (nine h n s) = inr (record { from = omega arith; to = omega arith })
    go (ten h s m) = inr (record { from = omega arith; to = omega arith })
    go (eleven h s m cut) = inr (record { from = omega arith; to = omega arith })
    go (zero h s m cut) = inl refl

-- whole or by days, a legal year has one answer
pub given_one : (k : Basis) {xs : List ℕ} {a : Said} → LegalYear k xs → Given ours k xs a → a ≡ judged (terms_of k) (basis_figures k xs)
given_one k l whole = whole_one k l
given_one k l (days ds e full) =
    (days_whole k l.opens).taken ds (full ∙ sym (year_run (basis_year k)))
    ∙ ap (decide_answer k) e
    ∙ whole_one k l

fair : (k : Basis) (xs : List ℕ) (a : Said) → LegalYear k xs → Given ours k xs a → a.number ≡ 0 → FairCharge (basis_edition k) a
fair k xs a l g z =
    let one = given_one k l g in
    let ed = basis_edition k in
    let f = basis_figures k xs in
    let c = charged_of f (general ed f (basis_rates k)) (charge ed f (basis_rates k)) in
    let is : a ≡ with_charge c = one ∙ said_is _ (year_column ed f (basis_rates k)) 0 (carried.judge ed f (basis_rates k)) (sym (number_is one) ∙ z) in
    let fair = accepted_fair k xs c (sym is ∙ one) in
    record {
      c = c.charge;
      g = c.peaks.plain.general;
      rest = _;
      carried = ap (λ (s : Said). s.figures) is;
      share = fair.floor;
      below = fair.reduction;
    }

pub fairness : Fairness ours
fairness =
    record {
      same_answer =
          λ k xs ys a b t agree. given_one k t.second t.second_given ∙ same_answer k t.alike agree ∙ sym (given_one k t.first t.first_given);
      no_more = λ k xs ys a b t none.
          omega (
            arith,
            ap payable (given_one k t.first t.first_given),
            ap payable (given_one k t.second t.second_given),
            pays_no_more k t.alike none,
          );
      stays_accepted = λ k xs ys a b t none z.
          number_is (given_one k t.second t.second_given)
          ∙ stays_accepted k t.alike none (sym (number_is (given_one k t.first t.first_given)) ∙ z);
      answered = λ k xs a l g. rw (given_one k l g) (judged_numbers (basis_edition k) (basis_figures k xs) _ (legal_basis k xs l));
      pays = λ k xs a l g. rw (given_one k l g) (pays_is (basis_edition k) _ (legal_basis k xs l) (basis_figures k xs));
      accepted_fair = fair;
    }
