-- The cases of the charges alone and of the two halves, each with the code's answer on the left, and the two halves in
-- a row.
-- Assumes nothing.
use mathlib.Core.Path.{◌≡◌, refl, sym, ap, ◌∙◌}
use mathlib.Core.Bool.{Bool, true, false, cond}
use mathlib.Core.Logic.{⊎_elim}
use Prim.Native.Nat.{ℕ, ◌+◌, ◌*◌, ◌≤◌, ◌<◌}
use native.Mathlib.Omega.{arith}
use lib.ListN.{get_or}
use borrow.Author.Tests.{lt-ltb, le-ltb, eq-eqb, ne_eqb}
use Rattle.ranges.proofs.Bools.{decided}
use Rattle.answers.specs.declared.Edition.{Edition}
use Rattle.answers.specs.Edition.{whole_share}
use Rattle.answers.specs.Ruling.{least_move, least_reduction, share_of, level_out}
use Rattle.answers.specs.Said.{Said, only, yes_no, or_else}
use Rattle.tariff.specs.declared.Rates.{Rates}
use Rattle.tariff.specs.declared.Figures.{Figures}
use Rattle.tariff.specs.declared.TwoCharges.{TwoCharges}
use Rattle.tariff.specs.Prices.{prices_out, LegalPrices}
use Rattle.tariff.specs.Charges.{general, charges_of}
use Rattle.tariff.specs.Answers.{with_general, with_charges, with_plain, with_peaks, with_charge, plain_of, peaks_of, charged_of, payable}
use Rattle.tariff.specs.Decision.{moved, general_answer, charges_answer, eligible_rules, charge_rules, judge_rules, eligible_answer, charge_answer, judge_answer}
use Rattle.tariff.specs.Rows.{LegalRates}
use Rattle.tariff.proofs.Limits.{prices_legal, legal_in}

pub number_is : {a b : Said} → a ≡ b → a.number ≡ b.number
number_is e = ap (λ (s : Said). s.number) e

-- 6 where a test passes, else an answer with the number 0: what is given tells which
six_said : (t : Bool) (x : Said) → x.number ≡ 0 → only 6 ≡ cond t (only 6) x → t ≡ true
six_said true x z e = refl
six_said false x z e = absurd (omega (arith, number_is e, z))

else_said : (t : Bool) {a x : Said} → a.number ≡ 0 → a ≡ cond t (only 6) x → (t ≡ false) × (a ≡ x)
else_said true z e = absurd (omega (arith, number_is e, z))
else_said false z e = (refl, e)

-- the charges c and g among the figures of an answer
abbrev charges_from : Said → TwoCharges
charges_from a = record { charge = get_or a.figures 0 0; general = get_or a.figures 1 0 }

-- the charges alone
module _ (ed : Edition) (f : Figures) (r : Rates) where
  pub general_out : prices_out r.prices ≡ true → only 6 ≡ general_answer ed f r
  unfolding general_answer
  general_out q = simp q

  pub general_in : {g : ℕ} → prices_out r.prices ≡ false → g ≡ general ed f r → with_general g ≡ general_answer ed f r
  unfolding general_answer
  general_in q e = simp (q, e)

  pub charges_out : prices_out r.prices ≡ true → only 6 ≡ charges_answer ed f r
  unfolding charges_answer
  charges_out q = simp q

  pub charges_in : {a : TwoCharges} → prices_out r.prices ≡ false → a ≡ charges_of ed f r → with_charges a ≡ charges_answer ed f r
  unfolding charges_answer
  charges_in q e = simp (q, e)

  -- and read off what they say: 6 is given for a price alone, and cents are the charges of legal prices
  pub general_six : only 6 ≡ general_answer ed f r → prices_out r.prices ≡ true
  unfolding general_answer
  general_six e = six_said (prices_out r.prices) (with_general (general ed f r)) refl e

  pub general_cents : {g : ℕ} → with_general g ≡ general_answer ed f r → (prices_out r.prices ≡ false) × (g ≡ general ed f r)
  unfolding general_answer
  general_cents e = let k = else_said (prices_out r.prices) refl e in (k.0, ap payable k.1)

  pub charges_six : only 6 ≡ charges_answer ed f r → prices_out r.prices ≡ true
  unfolding charges_answer
  charges_six e = six_said (prices_out r.prices) (with_charges (charges_of ed f r)) refl e

  pub charges_cents : {a : TwoCharges} → with_charges a ≡ charges_answer ed f r → (prices_out r.prices ≡ false) × (a ≡ charges_of ed f r)
  unfolding charges_answer
  charges_cents e = let k = else_said (prices_out r.prices) refl e in (k.0, ap charges_from k.1)

-- the rules of the first half
module _ (ed : Edition) (f : Figures) (r : Rates) {g : ℕ} (e : g ≡ general ed f r) where
  pub eligible_none : f.any ≡ false → with_plain (plain_of f g) ≡ eligible_rules ed f r
  unfolding eligible_rules
  eligible_none n = simp (e, n)

  module _ (n : f.any ≡ true) where
    pub eligible_share : whole_share * moved f < share_of ed r.level * f.peak → with_peaks 9 (peaks_of f g) ≡ eligible_rules ed f r
    unfolding eligible_rules
    eligible_share s = simp (e, n, lt-ltb _ _ s)

    module _ (s : share_of ed r.level * f.peak ≤ whole_share * moved f) where
      pub eligible_move : moved f < least_move ed → with_peaks 10 (peaks_of f g) ≡ eligible_rules ed f r
      unfolding eligible_rules
      eligible_move m = simp (e, n, le-ltb _ _ s, lt-ltb _ _ m)

      pub eligible_yes : least_move ed ≤ moved f → yes_no true ≡ eligible_rules ed f r
      unfolding eligible_rules
      eligible_yes m = simp (n, le-ltb _ _ s, le-ltb _ _ m)

-- the rules of the second half, by the charges
module _ (ed : Edition) (f : Figures) (r : Rates) {a : TwoCharges} (e : a ≡ charges_of ed f r) where
  pub charge_none : f.any ≡ false → with_plain (plain_of f a.general) ≡ charge_rules ed f r
  unfolding charge_rules
  charge_none n = simp (e, n)

  module _ (n : f.any ≡ true) where
    pub charge_reduction : a.general < a.charge + least_reduction ed → with_peaks 11 (peaks_of f a.general) ≡ charge_rules ed f r
    unfolding charge_rules
    charge_reduction l = let k = rw e at l in simp (e, n, lt-ltb _ _ k)

    pub charge_accepted : a.charge + least_reduction ed ≤ a.general → with_charge (charged_of f a.general a.charge) ≡ charge_rules ed f r
    unfolding charge_rules
    charge_accepted l =
        let k = rw e at l in
        ap (λ (b : TwoCharges). with_charge (charged_of f b.general b.charge)) e ∙ simp (n, le-ltb _ _ k)

-- 2 and 6 in front, and the rules for legal rates
module _ (ed : Edition) (f : Figures) (r : Rates) where
  pub eligible_level : level_out r.level ≡ true → only 2 ≡ eligible_answer ed f r
  unfolding eligible_answer
  eligible_level l = simp l

  pub eligible_prices : level_out r.level ≡ false → prices_out r.prices ≡ true → only 6 ≡ eligible_answer ed f r
  unfolding eligible_answer
  eligible_prices l q = simp (l, q)

  pub eligible_legal : LegalRates r → eligible_rules ed f r ≡ eligible_answer ed f r
  unfolding eligible_answer
  eligible_legal h = simp ((legal_in h).0, (legal_in h).1)

  pub charge_prices : prices_out r.prices ≡ true → only 6 ≡ charge_answer ed f r
  unfolding charge_answer
  charge_prices q = simp q

  pub charge_legal : LegalPrices r.prices → charge_rules ed f r ≡ charge_answer ed f r
  unfolding charge_answer
  charge_legal h = simp ((prices_legal r.prices).1 h)

-- the whole decision is the two halves in a row, for any level and prices
pub in_a_row : (ed : Edition) (f : Figures) (r : Rates) → judge_answer ed f r ≡ or_else (eligible_answer ed f r) (charge_answer ed f r)
unfolding judge_answer eligible_answer charge_answer judge_rules
in_a_row ed f r =
    ⊎_elim (λ (l : level_out r.level ≡ true). simp l) (λ (l : level_out r.level ≡ false).
    ⊎_elim (λ (q : prices_out r.prices ≡ true). simp (l, q)) (λ (q : prices_out r.prices ≡ false). simp (l, q))
    (decided (prices_out r.prices))) (decided (level_out r.level))

-- so a refusal of the first half is its answer, and else what the second half answers
module _ (ed : Edition) (f : Figures) (r : Rates) where
  pub judge_first : {a : Said} → a ≡ eligible_answer ed f r → (a.number ≡ 0 → ⊥) → a ≡ judge_answer ed f r
  judge_first e z = e ∙ sym (in_a_row ed f r ∙ rw (ne_eqb _ _ (λ k. z (number_is e ∙ k))))

  pub judge_second : {a : Said} → (eligible_answer ed f r).number ≡ 0 → a ≡ charge_answer ed f r → a ≡ judge_answer ed f r
  judge_second z e = e ∙ sym (in_a_row ed f r ∙ rw (eq-eqb _ _ z))
