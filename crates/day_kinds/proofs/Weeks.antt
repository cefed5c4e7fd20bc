-- Theorems of the days that carry windows: a week has one bridge day at most, a bridge day is a Monday or a Friday that
-- no other ground makes free (Rule 3.4), and a day carries windows exactly when none of the grounds of Rule 3.3 holds.
-- Assumes nothing.
use mathlib.Core.Path.{◌≡◌, refl, ◌∙◌}
use mathlib.Core.Bool.{Bool, true, false, cond, not, ◌&&◌, ◌||◌, and-false}
use mathlib.Core.Logic.{◌⊎◌, inl, inr, ⊎_elim}
use mathlib.Core.List.{List}
use Prim.Native.Nat.{ℕ, ◌+◌, ◌-◌, ◌≤◌, ◌<◌}
use native.Mathlib.Omega.{arith}
use borrow.Author.Tests.{eqb-true, not-true}
use lib.Dec.{eqb}
use lib.ListN.{get_or}
use Rattle.ranges.proofs.Bools.{decided, both, either, neither, clash}
use Rattle.ranges.proofs.Tables.{get_d_table}
use Rattle.dates.specs.Dates.{year_days, most_days, weekday_of, monday, friday}
use Rattle.holidays.specs.Holidays.{listed}
use Rattle.day_kinds.specs.declared.DayKind.TheVariants.{Windows, Weekend, Listed, Christmas, Bridge}
use Rattle.day_kinds.specs.Kinds.{weekend, christmas, free, candidate, monday_candidate, friday_candidate, bridge, kind_by, is_windows, carries, window_days}
use Rattle.day_kinds.proofs.Rules.{christmas_late}

module _ (y : ℕ) (isListed : ℕ → Bool) where
  -- what a candidate is
  pub candidate_is : (w n d : ℕ) → candidate y isListed w n d ≡ true → (weekday_of y d ≡ w) × (isListed n ≡ true) × (free y isListed d ≡ false)
  unfolding candidate
  candidate_is w n d e =
      let a = both (eqb (weekday_of y d) w) (isListed n && not (free y isListed d)) e in
      let b = both (isListed n) (not (free y isListed d)) a.1 in
      (eqb-true _ _ a.0, b.0, not-true _ b.1)

  -- a Friday candidate whose Monday is none
  abbrev pub LateCandidate : ℕ → Type 0
  LateCandidate d = (friday_candidate y isListed d ≡ true) × (monday_candidate y isListed (d - 4) ≡ false)

  bridge_is : (d : ℕ) → bridge y isListed d ≡ true → (monday_candidate y isListed d ≡ true) ⊎ LateCandidate d
  unfolding bridge
  bridge_is d e =
      ⊎_elim inl (λ (f : (friday_candidate y isListed d && not (monday_candidate y isListed (d - 4))) ≡ true).
      let b = both (friday_candidate y isListed d) (not (monday_candidate y isListed (d - 4))) f in
      inr (b.0, not-true _ b.1))
      (either (monday_candidate y isListed d) _ e)

  -- a bridge day is a Monday or a Friday
  pub bridge_weekday : (d : ℕ) → bridge y isListed d ≡ true → (weekday_of y d ≡ monday) ⊎ (weekday_of y d ≡ friday)
  bridge_weekday d e =
      ⊎_elim (λ a. inl (candidate_is monday (d + 1) d a).0) (λ a. inr (candidate_is friday (d - 1) d a.0).0) (bridge_is d e)

  -- that no other ground makes free
  pub bridge_bound : (d : ℕ) → bridge y isListed d ≡ true → free y isListed d ≡ false
  bridge_bound d e =
      ⊎_elim (λ a. (candidate_is monday (d + 1) d a).2) (λ a. (candidate_is friday (d - 1) d a.0).2) (bridge_is d e)

  -- the Monday of one is the Monday of the other
  not_both : (d e : ℕ) → d + 4 ≡ e → monday_candidate y isListed d ≡ true → monday_candidate y isListed (e - 4) ≡ false → ⊥
  not_both d e q m n =
      let p : e - 4 ≡ d = omega arith in
      clash m (rw p at n)

  -- At most one bridge day in a week, which begins on Monday: two days of one week are as far from its Monday as their
  -- weekdays say.
  pub one_bridge : (d e : ℕ) → d + weekday_of y e ≡ e + weekday_of y d → bridge y isListed d ≡ true → bridge y isListed e ≡ true → d ≡ e
  one_bridge d e w p q = ⊎_elim (λ a. ⊎_elim (mm a) (mf a) (bridge_is e q)) (λ a. ⊎_elim (fm a) (ff a) (bridge_is e q)) (bridge_is d p)
    where
      mm : monday_candidate y isListed d ≡ true → monday_candidate y isListed e ≡ true → d ≡ e
      mm a b = omega (arith, candidate_is _ _ d a, candidate_is _ _ e b)

      mf : monday_candidate y isListed d ≡ true → LateCandidate e → d ≡ e
      mf a b = absurd (not_both d e (omega (arith, candidate_is _ _ d a, candidate_is _ _ e b.0)) a b.1)

      fm : LateCandidate d → monday_candidate y isListed e ≡ true → d ≡ e
      fm a b = absurd (not_both e d (omega (arith, candidate_is _ _ d a.0, candidate_is _ _ e b)) b a.1)

      ff : LateCandidate d → LateCandidate e → d ≡ e
      ff a b = omega (arith, candidate_is _ _ d a.0, candidate_is _ _ e b.0)

  -- nor is it in 24 December to 1 January
  bound_christmas : (d : ℕ) → free y isListed d ≡ false → christmas y d ≡ false
  unfolding free
  bound_christmas d e = (neither (isListed d) (christmas y d) (neither (weekend y d) (isListed d || christmas y d) e).1).1

  pub bridge_christmas : (d : ℕ) → bridge y isListed d ≡ true → christmas y d ≡ false
  bridge_christmas d e = bound_christmas d (bridge_bound d e)

  -- so a week over the turn of a year has no bridge day in the old year, and at most one in all
  pub old_year : (d : ℕ) → year_days y ≤ d + 7 → bridge y isListed d ≡ true → ⊥
  old_year d h e = clash (christmas_late y d h) (bridge_christmas d e)

  -- and its Monday, in the year before, is no candidate
  pub year_before : (w n : ℕ) → candidate y isListed w n 0 ≡ false
  unfolding christmas
  year_before w n = ⊎_elim (λ e. absurd (clash refl (bound_christmas 0 (candidate_is w n 0 e).2))) (λ e. e) (decided (candidate y isListed w n 0))

-- a day carries windows exactly when none of the four grounds of Rule 3.3 makes it free
pub carries_when :
    (y : ℕ) (hs : List ℕ) (d : ℕ)
    → carries y hs d ≡ (not (weekend y d) && (not (listed hs d) && (not (christmas y d) && not (bridge y (listed hs) d))))
unfolding kind_by
carries_when y hs d = go (weekend y d) (listed hs d) (christmas y d) (bridge y (listed hs) d)
  where
    go : (a b c e : Bool) → is_windows (cond a Weekend (cond b Listed (cond c Christmas (cond e Bridge Windows)))) ≡ (not a && (not b && (not c && not e)))
    go true b c e = refl
    go false true c e = refl
    go false false true e = refl
    go false false false true = refl
    go false false false false = refl

-- what a caller of `window_days` reads: day k + 1 stands at place k, and a day past the year's end carries none
pub window_day : (y : ℕ) (hs : List ℕ) (k : ℕ) → k < most_days → get_or (window_days y hs) k false ≡ carries y hs (k + 1)
unfolding window_days
window_day y hs k h = get_d_table (λ j. carries y hs (j + 1)) most_days k false h

pub none_past : (y : ℕ) (hs : List ℕ) (d : ℕ) → year_days y < d → carries y hs d ≡ false
none_past y hs d h = carries_when y hs d ∙ simp (christmas_late y d (omega arith), and-false)
