-- A call gives a number exactly when that number's row holds and no row that it tests before (Rules 8.1 and 8.2).
-- Assumes nothing.
use mathlib.Core.Path.{◌≡◌, refl, sym, ◌∙◌}
use mathlib.Core.Bool.{true}
use mathlib.Core.Logic.{◌↔◌, ⊎_elim}
use Prim.Native.Nat.{ℕ, ◌+◌, ◌*◌, ◌≤◌, ◌<◌}
use native.Mathlib.Decide.{dec_lt, ℕ_discrete}
use native.Mathlib.Omega.{arith}
use Rattle.ranges.proofs.Bools.{decided, refutes, clash}
use Rattle.answers.specs.declared.Edition.{Edition}
use Rattle.answers.specs.Edition.{whole_share}
use Rattle.answers.specs.Ruling.{least_move, least_reduction, share_of, level_out}
use Rattle.answers.specs.Said.{yes_no}
use Rattle.answers.proofs.Laws.{level_of}
use Rattle.tariff.specs.declared.Rates.{Rates}
use Rattle.tariff.specs.declared.Figures.{Figures}
use Rattle.tariff.specs.Prices.{prices_out, LegalPrices}
use Rattle.tariff.specs.Charges.{general, charge}
use Rattle.tariff.specs.Decision.{moved, eligible_rules, charge_rules, eligible_answer, charge_answer, judge_answer}
use Rattle.tariff.specs.Rows.{LegalRates, EligibleRow, ChargeRow, JudgeRow}
use Rattle.tariff.specs.Rows.EligibleRow.{two, six, eight, nine, ten, zero}
use Rattle.tariff.specs.Rows.ChargeRow.{six, eight, eleven, zero}
use Rattle.tariff.specs.Rows.JudgeRow.{two, six, eight, nine, ten, eleven, zero}
use Rattle.tariff.proofs.Limits.{prices_legal, rates_legal}
use Rattle.tariff.proofs.Answered.{number_is, eligible_none, eligible_share, eligible_move, eligible_yes, charge_none, charge_reduction, charge_accepted, eligible_level, eligible_prices, eligible_legal, charge_prices, charge_legal, judge_first, judge_second}

-- the first half
module _ (ed : Edition) (f : Figures) (r : Rates) where
  eligible_rules_hold : LegalRates r → EligibleRow ed f r (eligible_rules ed f r).number
  eligible_rules_hold h =
      ⊎_elim (λ n. some n (dec_lt (whole_share * moved f) (share_of ed r.level * f.peak)) (dec_lt (moved f) (least_move ed)))
      (λ n. rw (← eligible_none ed f r refl n) (eight h n)) (decided f.any)
    where
      some :
          f.any ≡ true
          → Dec (whole_share * moved f < share_of ed r.level * f.peak)
          → Dec (moved f < least_move ed)
          → EligibleRow ed f r (eligible_rules ed f r).number
      some n (yes s) m = rw (← eligible_share ed f r refl n s) (nine h n s)
      some n (no s) (yes m) =
          let reached : share_of ed r.level * f.peak ≤ whole_share * moved f = omega arith in
          rw (← eligible_move ed f r refl n reached m) (ten h (record { some = n; share = reached }) m)
      some n (no s) (no m) =
          let reached : share_of ed r.level * f.peak ≤ whole_share * moved f = omega arith in
          let t : least_move ed ≤ moved f = omega arith in
          rw (← eligible_yes ed f r refl n reached t) (zero h (record { some = n; share = reached }) t)

  eligible_holds : EligibleRow ed f r (eligible_answer ed f r).number
  eligible_holds =
      ⊎_elim (λ l. rw (← eligible_level ed f r l) (two ((refutes _ (level_of _)).0 l))) (λ l.
      ⊎_elim (λ q. rw (← eligible_prices ed f r l q) (six ((level_of _).0 l) ((refutes _ (prices_legal _)).0 q)))
      (λ q. let h = rates_legal l q in rw (← eligible_legal ed f r h) (eligible_rules_hold h))
      (decided (prices_out r.prices))) (decided (level_out r.level))

  eligible_given : {n : ℕ} → EligibleRow ed f r n → (eligible_answer ed f r).number ≡ n
  eligible_given (two a) = rw (← eligible_level ed f r ((refutes _ (level_of _)).1 a))
  eligible_given (six a b) = rw (← eligible_prices ed f r ((level_of _).1 a) ((refutes _ (prices_legal _)).1 b))
  eligible_given (eight h n) = rw (← eligible_legal ed f r h, ← eligible_none ed f r refl n)
  eligible_given (nine h n s) = rw (← eligible_legal ed f r h, ← eligible_share ed f r refl n s)
  eligible_given (ten h s m) = rw (← eligible_legal ed f r h, ← eligible_move ed f r refl s.some s.share m)
  eligible_given (zero h s m) = rw (← eligible_legal ed f r h, ← eligible_yes ed f r refl s.some s.share m)

  pub eligible_exactly : (n : ℕ) → ((eligible_answer ed f r).number ≡ n) ↔ EligibleRow ed f r n
  eligible_exactly n = (λ e. rw e at eligible_holds, eligible_given)

  -- the first half's 0 says yes
  pub eligible_zero : (eligible_answer ed f r).number ≡ 0 → yes_no true ≡ eligible_answer ed f r
  eligible_zero z = go ((eligible_exactly 0).0 z) refl
    where
      go : {n : ℕ} → EligibleRow ed f r n → n ≡ 0 → yes_no true ≡ eligible_answer ed f r
      go (two a) e = absurd (omega arith)
      go (six a b) e = absurd (omega arith)
      go (eight h n) e = absurd (omega arith)
      go (nine h n s) e = absurd (omega arith)
      go (ten h s m) e = absurd (omega arith)
      go (zero h s m) e = eligible_yes ed f r refl s.some s.share m ∙ eligible_legal ed f r h

-- the second half
module _ (ed : Edition) (f : Figures) (r : Rates) where
  -- by the rules alone, for legal prices
  some_holds :
      LegalPrices r.prices
      → f.any ≡ true
      → Dec (general ed f r < charge ed f r + least_reduction ed)
      → ChargeRow ed f r (charge_rules ed f r).number
  some_holds h n (yes cut) = rw (← charge_reduction ed f r refl n cut) (eleven h n cut)
  some_holds h n (no cut) =
      let t : charge ed f r + least_reduction ed ≤ general ed f r = omega arith in
      rw (← charge_accepted ed f r refl n t) (zero h n t)

  charge_rules_hold : LegalPrices r.prices → ChargeRow ed f r (charge_rules ed f r).number
  charge_rules_hold h =
      ⊎_elim (λ n. some_holds h n (dec_lt (general ed f r) (charge ed f r + least_reduction ed)))
      (λ n. rw (← charge_none ed f r refl n) (eight h n)) (decided f.any)

  charge_holds : ChargeRow ed f r (charge_answer ed f r).number
  charge_holds =
      ⊎_elim (λ q. rw (← charge_prices ed f r q) (six ((refutes _ (prices_legal _)).0 q)))
      (λ q. let h = (prices_legal _).0 q in rw (← charge_legal ed f r h) (charge_rules_hold h)) (decided (prices_out r.prices))

  charge_given : {n : ℕ} → ChargeRow ed f r n → (charge_answer ed f r).number ≡ n
  charge_given (six a) = rw (← charge_prices ed f r ((refutes _ (prices_legal _)).1 a))
  charge_given (eight h n) = rw (← charge_legal ed f r h, ← charge_none ed f r refl n)
  charge_given (eleven h n cut) = rw (← charge_legal ed f r h, ← charge_reduction ed f r refl n cut)
  charge_given (zero h n cut) = rw (← charge_legal ed f r h, ← charge_accepted ed f r refl n cut)

  pub charge_exactly : (n : ℕ) → ((charge_answer ed f r).number ≡ n) ↔ ChargeRow ed f r n
  charge_exactly n = (λ e. rw e at charge_holds, charge_given)

-- the whole decision: each row is a row of the first half, or its 0 and a row of the second
module _ (ed : Edition) (f : Figures) (r : Rates) where
  judge_holds : JudgeRow ed f r (judge_answer ed f r).number
  judge_holds = go (ℕ_discrete (eligible_answer ed f r).number 0)
    where
      first : {n : ℕ} → EligibleRow ed f r n → (n ≡ 0 → ⊥) → JudgeRow ed f r n
      first (two a) z = two a
      first (six a b) z = six a b
      first (eight h n) z = eight h n
      first (nine h n s) z = nine h n s
      first (ten h s m) z = ten h s m
      first (zero h s m) z = absurd (z refl)

      second : {n m : ℕ} → EligibleRow ed f r n → n ≡ 0 → ChargeRow ed f r m → JudgeRow ed f r m
      second (two a) z row = absurd (omega arith)
      second (six a b) z row = absurd (omega arith)
      second (eight h n) z row = absurd (omega arith)
      second (nine h n s) z row = absurd (omega arith)
      second (ten h s m) z row = absurd (omega arith)
      second (zero h s m) z (six a) = absurd (a h.legal_prices)
      second (zero h s m) z (eight a n) = absurd (clash s.some n)
      second (zero h s m) z (eleven a n cut) = eleven h s m cut
      second (zero h s m) z (zero a n cut) = zero h s m cut

      go : Dec ((eligible_answer ed f r).number ≡ 0) → JudgeRow ed f r (judge_answer ed f r).number
      go (no z) = rw (← judge_first ed f r refl z) (first ((eligible_exactly ed f r _).0 refl) z)
      go (yes z) = rw (← judge_second ed f r z refl) (second ((eligible_exactly ed f r 0).0 z) refl ((charge_exactly ed f r _).0 refl))

  by_first : {n : ℕ} → EligibleRow ed f r n → (n ≡ 0 → ⊥) → (judge_answer ed f r).number ≡ n
  by_first {n} row z =
      let e = (eligible_exactly ed f r n).1 row in
      sym (number_is (judge_first ed f r refl (λ k. z (sym e ∙ k)))) ∙ e

  by_second : {n : ℕ} → EligibleRow ed f r 0 → ChargeRow ed f r n → (judge_answer ed f r).number ≡ n
  by_second {n} first second =
      sym (number_is (judge_second ed f r ((eligible_exactly ed f r 0).1 first) refl)) ∙ (charge_exactly ed f r n).1 second

  judge_given : {n : ℕ} → JudgeRow ed f r n → (judge_answer ed f r).number ≡ n
  judge_given (two a) = by_first (two a) (omega arith)
  judge_given (six a b) = by_first (six a b) (omega arith)
  judge_given (eight h n) = by_first (eight h n) (omega arith)
  judge_given (nine h n s) = by_first (nine h n s) (omega arith)
  judge_given (ten h s m) = by_first (ten h s m) (omega arith)
  judge_given (eleven h s m cut) = by_second (zero h s m) (eleven h.legal_prices s.some cut)
  judge_given (zero h s m cut) = by_second (zero h s m) (zero h.legal_prices s.some cut)

  pub judge_exactly : (n : ℕ) → ((judge_answer ed f r).number ≡ n) ↔ JudgeRow ed f r n
  judge_exactly n = (λ e. rw e at judge_holds, judge_given)
