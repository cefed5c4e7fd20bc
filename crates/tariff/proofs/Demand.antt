-- The third demand (Rule 12.3) over a year's figures: a lower in-window peak never costs more, an acceptance stays one,
-- and an accepted charge is the floor's percentage of the general charge or more, and the least reduction or more below
-- it; under every edition, legal or not.
-- Assumes nothing.
use mathlib.Core.Path.{◌≡◌, refl, sym, ap, ◌∙◌}
use mathlib.Core.Bool.{cond}
use Prim.Native.Nat.{ℕ, ◌+◌, ◌*◌, ◌≤◌}
use native.Mathlib.Decide.{ℕ_discrete}
use native.Mathlib.Omega.{arith}
use borrow.Author.Tests.{ne_eqb}
use lib.Dec.{eqb}
use lib.ListN.{get_or}
use Rattle.ranges.proofs.Bools.{refutes}
use Rattle.answers.specs.declared.Edition.{Edition}
use Rattle.answers.specs.Ruling.{least_reduction, share_of}
use Rattle.answers.specs.Said.{Said}
use Rattle.answers.proofs.Laws.{level_of}
use Rattle.tariff.specs.declared.Rates.{Rates}
use Rattle.tariff.specs.declared.Figures.{Figures}
use Rattle.tariff.specs.declared.Charged.{Charged}
use Rattle.tariff.specs.Charges.{general, reduced, floor_of, charge}
use Rattle.tariff.specs.Answers.{with_charge, payable}
use Rattle.tariff.specs.Decision.{eligible_rules, charge_rules, eligible_answer, charge_answer, judge_answer}
use Rattle.tariff.specs.Rows.{LegalRates, EligibleRow, ChargeRow, JudgeRow}
use Rattle.tariff.specs.Rows.EligibleRow.{zero}
use Rattle.tariff.specs.Rows.ChargeRow.{six, eight, eleven, zero}
use Rattle.tariff.specs.Rows.JudgeRow.{two, six, eight, nine, ten, eleven, zero}
use Rattle.tariff.specs.Demand.{Under, Fair}
use Rattle.tariff.proofs.Limits.{prices_legal}
use Rattle.tariff.proofs.Charges.{floor_least, charge_mono}
use Rattle.tariff.proofs.Answered.{number_is, eligible_none, eligible_share, eligible_move, charge_reduction, charge_accepted, eligible_level, eligible_prices, eligible_legal, charge_legal, judge_first, judge_second}
use Rattle.tariff.proofs.Exactly.{eligible_exactly, charge_exactly, judge_exactly}

module _ (ed : Edition) {f e : Figures} (u : Under f e) (r : Rates) where
  general_same : general ed e r ≡ general ed f r
  unfolding general
  general_same = rw (u.peak, u.sum)

  reduced_mono : reduced ed e r ≤ reduced ed f r
  unfolding reduced
  reduced_mono = rw (u.peak, u.sum) (charge_mono e.high f.high _ _ u.high)

  own_mono : charge ed e r ≤ charge ed f r
  unfolding charge
  own_mono = omega (arith, ap (floor_of ed) general_same, reduced_mono)

-- a charge that the second half accepts
charge_fair : (ed : Edition) (f : Figures) (r : Rates) (a : Charged) → charge_answer ed f r ≡ with_charge a → Fair ed a
unfolding charge
charge_fair ed f r a e = go ((charge_exactly ed f r 0).0 (number_is e)) refl
  where
    go : {n : ℕ} → ChargeRow ed f r n → n ≡ 0 → Fair ed a
    go (six h) z = absurd (omega arith)
    go (eight h n) z = absurd (omega arith)
    go (eleven h n cut) z = absurd (omega arith)
    go (zero h n cut) z =
        let all = charge_accepted ed f r refl n cut ∙ charge_legal ed f r h ∙ e in
        let c : charge ed f r ≡ a.charge = ap payable all in
        let g : general ed f r ≡ a.peaks.plain.general = ap (λ (s : Said). get_or s.figures 1 0) all in
        record { floor = omega (arith, (floor_least ed (general ed f r)).0, ap (◌*◌ ed.floor) g); reduction = omega arith }

module _ (ed : Edition) (r : Rates) where
  -- an accepted charge is no less than the floor's percentage of the general charge, and the least reduction or more
  -- below it
  pub accepted_charge : (f : Figures) (a : Charged) → judge_answer ed f r ≡ with_charge a → Fair ed a
  accepted_charge f a e = go (ℕ_discrete (eligible_answer ed f r).number 0)
    where
      go : Dec ((eligible_answer ed f r).number ≡ 0) → Fair ed a
      go (yes z) = charge_fair ed f r a (judge_second ed f r z refl ∙ e)
      go (no z) = absurd (z (number_is (judge_first ed f r refl z ∙ e)))

  -- the row of 0 stays
  zero_stays : {f e : Figures} {n : ℕ} → Under f e → JudgeRow ed f r n → n ≡ 0 → JudgeRow ed e r 0
  zero_stays u (two a) z = absurd (omega arith)
  zero_stays u (six a b) z = absurd (omega arith)
  zero_stays u (eight h n) z = absurd (omega arith)
  zero_stays u (nine h n s) z = absurd (omega arith)
  zero_stays u (ten h s m) z = absurd (omega arith)
  zero_stays u (eleven h s m cut) z = absurd (omega arith)
  zero_stays {f} {e} u (zero h s m cut) z =
      let same : share_of ed r.level * e.peak ≡ share_of ed r.level * f.peak = ap (◌*◌ (share_of ed r.level)) u.peak in
      zero h (record { some = u.any ∙ s.some; share = omega arith }) (omega arith) (omega (arith, general_same ed u r, own_mono ed u r))

  pub stays : {f e : Figures} → Under f e → (judge_answer ed f r).number ≡ 0 → (judge_answer ed e r).number ≡ 0
  stays {f} {e} u z = (judge_exactly ed e r 0).1 (zero_stays u ((judge_exactly ed f r 0).0 z) refl)

  -- what the customer pays by the answer: nothing is said, the general charge, or the charge
  data Pays (f : Figures) : Type 0 where
    unsaid : (LegalRates r → ⊥) → payable (judge_answer ed f r) ≡ 0 → Pays f
    full : LegalRates r → ((judge_answer ed f r).number ≡ 0 → ⊥) → payable (judge_answer ed f r) ≡ general ed f r → Pays f
    own :
        LegalRates r
        → (judge_answer ed f r).number ≡ 0
        → charge ed f r + least_reduction ed ≤ general ed f r
        → payable (judge_answer ed f r) ≡ charge ed f r
        → Pays f

  module _ (f : Figures) where
    -- a refusal whose first figure is the general charge
    refused : {a : Said} → LegalRates r → a ≡ judge_answer ed f r → (a.number ≡ 0 → ⊥) → payable a ≡ general ed f r → Pays f
    refused h e z g = full h (λ k. z (number_is e ∙ k)) (sym (ap payable e) ∙ g)

    first : {a : Said} → LegalRates r → a ≡ eligible_rules ed f r → (a.number ≡ 0 → ⊥) → payable a ≡ general ed f r → Pays f
    first h e z g = refused h (judge_first ed f r (e ∙ eligible_legal ed f r h) z) z g

    second : {a : Said} → LegalRates r → EligibleRow ed f r 0 → a ≡ charge_rules ed f r → a ≡ judge_answer ed f r
    second h row e = judge_second ed f r ((eligible_exactly ed f r 0).1 row) (e ∙ charge_legal ed f r h.legal_prices)

    pays : {n : ℕ} → JudgeRow ed f r n → Pays f
    pays (two a) =
        let e = eligible_level ed f r ((refutes _ (level_of _)).1 a) in
        unsaid (λ h. a h.legal_level) (ap payable (sym (judge_first ed f r e (omega arith))))
    pays (six a b) =
        let e = eligible_prices ed f r ((level_of _).1 a) ((refutes _ (prices_legal _)).1 b) in
        unsaid (λ h. b h.legal_prices) (ap payable (sym (judge_first ed f r e (omega arith))))
    pays (eight h n) = first h (eligible_none ed f r refl n) (omega arith) refl
    pays (nine h n s) = first h (eligible_share ed f r refl n s) (omega arith) refl
    pays (ten h s m) = first h (eligible_move ed f r refl s.some s.share m) (omega arith) refl
    pays (eleven h s m cut) =
        refused h (second h (zero h s m) (charge_reduction ed f r refl s.some cut)) (omega arith) refl
    pays (zero h s m cut) =
        let e = second h (zero h s m) (charge_accepted ed f r refl s.some cut) in
        own h (sym (number_is e)) cut (sym (ap payable e))

  pub never_more : {f e : Figures} → Under f e → payable (judge_answer ed e r) ≤ payable (judge_answer ed f r)
  never_more {f} {e} u = go (pays f ((judge_exactly ed f r _).0 refl)) (pays e ((judge_exactly ed e r _).0 refl))
    where
      go : Pays f → Pays e → payable (judge_answer ed e r) ≤ payable (judge_answer ed f r)
      go a (unsaid n z) = omega arith
      go (unsaid n z) (full h k g) = absurd (n h)
      go (unsaid n z) (own h k cut c) = absurd (n h)
      go (full h k g) (full i l m) = omega (arith, general_same ed u r)
      go (full h k g) (own i l cut c) = omega (arith, general_same ed u r)
      go (own h k cut c) (full i l g) = absurd (l (stays u k))
      go (own h k cut c) (own i l s d) = omega (arith, own_mono ed u r)

  -- under a legal level and legal prices the customer pays c by 0, and g by a refusal
  pub pays_is :
      LegalRates r
      → (f : Figures)
      → payable (judge_answer ed f r) ≡ cond (eqb (judge_answer ed f r).number 0) (charge ed f r) (general ed f r)
  pays_is h f = go (pays f ((judge_exactly ed f r _).0 refl))
    where
      go : Pays f → payable (judge_answer ed f r) ≡ cond (eqb (judge_answer ed f r).number 0) (charge ed f r) (general ed f r)
      go (unsaid n z) = absurd (n h)
      go (full l k g) = rw (ne_eqb _ _ k) g
      go (own l k cut c) = rw k c
