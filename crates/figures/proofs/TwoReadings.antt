-- A customer's year that is 0 everywhere but at two places, on two days, of which the earlier alone is in-window: M, S,
-- and H with its place. The example of Rule 10.7 has such a year.
-- Assumes nothing.
use mathlib.Core.Path.{◌≡◌, refl, sym, ap, ap₂, ◌∙◌}
use mathlib.Core.Bool.{Bool, true, false}
use mathlib.Core.List.{List}
use Prim.Native.Nat.{ℕ, zero, suc, ◌+◌, ◌-◌, ◌≤◌, ◌<◌, max}
use native.Mathlib.Nat.{le_antisymm}
use native.Mathlib.Decide.{ℕ_discrete}
use native.Mathlib.Omega.{arith}
use Rattle.ranges.specs.Ranges.{sum_over}
use Rattle.ranges.proofs.Bools.{clash}
use Rattle.ranges.proofs.Largest.{largest_le}
use Rattle.ranges.proofs.Sums.{sum_none, sum_suc, sum_more, sum_add}
use Rattle.ranges.proofs.Tests.{any_at}
use Rattle.tariff.specs.declared.Figures.{Figures}
use Rattle.readings.specs.declared.Run.{Run}
use Rattle.readings.specs.Runs.{day_len, quarter_of, reading}
use Rattle.readings.specs.Legal.{day_peak, peak_of}
use Rattle.readings.proofs.Legal.{reading_le}
use Rattle.figures.specs.Figures.{sum_of, any_on, figures_of, FirstPlace}
use Rattle.figures.proofs.Peak.{first_place}

-- a sum of zeros, of one value among zeros, and of two
sum_zeros : (f : ℕ → ℕ) (n : ℕ) → ((k : ℕ) → k < n → f k ≡ 0) → sum_over f n ≡ 0
sum_zeros f zero h = sum_none f
sum_zeros f (suc n) h = omega (arith, sum_suc f n, sum_zeros f n (λ k l. h k (omega arith)), h n (omega arith))

-- all values behind place j are 0
sum_front : (f : ℕ → ℕ) (n j : ℕ) → j < n → ((k : ℕ) → k < n → j < k → f k ≡ 0) → sum_over f n ≡ sum_over f j + f j
sum_front f n j l h =
    let e : n ≡ j + 1 + (n - (j + 1)) = omega arith in
    let rest = sum_zeros (λ k. f (j + 1 + k)) (n - (j + 1)) (λ k m. h (j + 1 + k) (omega arith) (omega arith)) in
    omega (arith, ap (sum_over f) e, sum_add f (j + 1) (n - (j + 1)), sum_more f j, rest)

sum_one : (f : ℕ → ℕ) (n i : ℕ) → i < n → ((k : ℕ) → k < n → (k ≡ i → ⊥) → f k ≡ 0) → sum_over f n ≡ f i
sum_one f n i l h =
    omega (
      arith,
      sum_front f n i l (λ k m o. h k m (λ e. omega arith)),
      sum_zeros f i (λ k m. h k (omega arith) (λ e. omega arith)),
    )

sum_two : (f : ℕ → ℕ) (n i j : ℕ) → i < j → j < n → ((k : ℕ) → k < n → (k ≡ i → ⊥) → (k ≡ j → ⊥) → f k ≡ 0) → sum_over f n ≡ f i + f j
sum_two f n i j o l h =
    omega (
      arith,
      sum_front f n j l (λ k m b. h k m (λ e. omega arith) (λ e. omega arith)),
      sum_one f j i o (λ k m e. h k (omega arith) e (λ z. omega arith)),
    )

-- the first n days of a series: v at position `at` of day `on`, w at position `to` of the later day `late`, and 0
-- everywhere else; days and positions count from 0
pub record TwoOthers (run : Run) (xs : List ℕ) (n on at v late to w : ℕ) : Type 0 where
  pub order : on < late
  pub late_in : late < n
  pub at_in : at < day_len run on
  pub to_in : to < day_len run late
  pub first : reading run xs on at ≡ v
  pub second : reading run xs late to ≡ w
  pub elsewhere : (d p : ℕ) → d < n → p < day_len run d → (d ≡ on → p ≡ at → ⊥) → (d ≡ late → p ≡ to → ⊥) → reading run xs d p ≡ 0

-- figures by their parts
figures_same :
    (f : Figures) {m s h d q : ℕ} {a : Bool}
    → f.peak ≡ m
    → f.sum ≡ s
    → f.any ≡ a
    → f.high ≡ h
    → f.day ≡ d
    → f.quarter ≡ q
    → f ≡ record { peak = m; sum = s; any = a; high = h; day = d; quarter = q }
figures_same f em es ea eh ed eq = rw (← em, ← es, ← ea, ← eh, ← ed, ← eq) refl

module _ {run : Run} {xs : List ℕ} {n on at v late to w : ℕ} (o : TwoOthers run xs n on at v late to w) where
  on_in : on < n
  on_in = omega (arith, o.order, o.late_in)

  -- where a reading stands, or that it is 0
  data Stands (d p : ℕ) : Type 0 where
    here : d ≡ on → p ≡ at → Stands d p
    there : d ≡ late → p ≡ to → Stands d p
    nowhere : reading run xs d p ≡ 0 → Stands d p

  place : (d p : ℕ) → d < n → p < day_len run d → Stands d p
  place d p l m = go (ℕ_discrete d on) (ℕ_discrete p at) (ℕ_discrete d late) (ℕ_discrete p to)
    where
      go : Dec (d ≡ on) → Dec (p ≡ at) → Dec (d ≡ late) → Dec (p ≡ to) → Stands d p
      go (yes a) (yes b) c e = here a b
      go (yes a) (no b) c e = nowhere (o.elsewhere d p l m (λ x y. b y) (λ x y. omega (arith, o.order)))
      go (no a) b (yes c) (yes e) = there c e
      go (no a) b (yes c) (no e) = nowhere (o.elsewhere d p l m (λ x y. a x) (λ x y. e y))
      go (no a) b (no c) e = nowhere (o.elsewhere d p l m (λ x y. a x) (λ x y. c x))

  -- M
  low : (d p : ℕ) → d < n → p < day_len run d → reading run xs d p ≤ max v w
  low d p l m = go (place d p l m)
    where
      go : Stands d p → reading run xs d p ≤ max v w
      go (here a b) = omega (arith, ap₂ (reading run xs) a b, o.first)
      go (there a b) = omega (arith, ap₂ (reading run xs) a b, o.second)
      go (nowhere z) = omega arith

  pub two_peak : peak_of run xs n ≡ max v w
  unfolding peak_of day_peak
  two_peak =
      le_antisymm (largest_le _ n (max v w) (λ d l. largest_le _ (day_len run d) (max v w) (λ p m. low d p l m)))
      (omega (
        arith,
        o.first,
        o.second,
        reading_le run xs n on at on_in o.at_in,
        reading_le run xs n late to o.late_in o.to_in,
      ))

  -- S: the sum of each of the two days, and of any other
  sum_on : sum_over (reading run xs on) (day_len run on) ≡ v
  sum_on =
      sum_one (reading run xs on) (day_len run on) at o.at_in
      (λ p m b. o.elsewhere on p on_in m (λ x y. b y) (λ x y. omega (arith, o.order)))
      ∙ o.first

  sum_late : sum_over (reading run xs late) (day_len run late) ≡ w
  sum_late =
      sum_one (reading run xs late) (day_len run late) to o.to_in
      (λ p m b. o.elsewhere late p o.late_in m (λ x y. omega (arith, o.order)) (λ x y. b y))
      ∙ o.second

  sum_other : (d : ℕ) → d < n → (d ≡ on → ⊥) → (d ≡ late → ⊥) → sum_over (reading run xs d) (day_len run d) ≡ 0
  sum_other d l a b = sum_zeros (reading run xs d) (day_len run d) (λ p m. o.elsewhere d p l m (λ x y. a x) (λ x y. b x))

  two_sum : sum_of run xs n ≡ v + w
  unfolding sum_of
  two_sum =
      sum_two (λ d. sum_over (reading run xs d) (day_len run d)) n on late o.order o.late_in sum_other
      ∙ omega (arith, sum_on, sum_late)

  -- H and its place
  module _ (in_window : ℕ → ℕ → Bool) (some : 0 < v) (inside : in_window on at ≡ true) (outside : in_window late to ≡ false) where
    abbrev f : Figures
    f = figures_of run in_window xs n

    abbrev First : Type 0
    First = FirstPlace run in_window xs n f

    two_any : f.any ≡ true
    unfolding figures_of any_on
    two_any = any_at _ n on on_in (any_at (in_window on) (day_len run on) at o.at_in inside)

    m_is : f.peak ≡ max v w
    unfolding figures_of
    m_is = two_peak

    s_is : f.sum ≡ v + w
    unfolding figures_of
    s_is = two_sum

    is_first : (p : First) → (p.on ≡ on) × (p.at ≡ at)
    is_first p = go (place p.on p.at p.on_in p.at_in)
      where
        go : Stands p.on p.at → (p.on ≡ on) × (p.at ≡ at)
        go (here a b) = (a, b)
        go (there a b) = absurd (clash p.counts_there (ap₂ in_window a b ∙ outside))
        go (nowhere z) = absurd (omega (arith, z, some, o.first, p.has, p.above on at on_in o.at_in inside))

    two_high : (p : First) → f.high ≡ v
    two_high p = sym p.has ∙ ap₂ (reading run xs) (is_first p).0 (is_first p).1 ∙ o.first

    two_day : (p : First) → f.day ≡ on + 1
    two_day p = p.day_is ∙ ap (λ (k : ℕ). k + 1) (is_first p).0

    two_quarter : (p : First) → f.quarter ≡ quarter_of run on at
    two_quarter p = p.quarter_is ∙ ap₂ (quarter_of run) (is_first p).0 (is_first p).1

    pub two_figures : f ≡ record { peak = max v w; sum = v + w; any = true; high = v; day = on + 1; quarter = quarter_of run on at }
    two_figures = let p = first_place run in_window xs n two_any in figures_same f m_is s_is two_any (two_high p) (two_day p) (two_quarter p)
