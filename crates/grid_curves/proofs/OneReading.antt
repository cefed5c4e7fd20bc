-- A grid series that has the same reading everywhere but at one place, where it is no lower: its peak and its curves.
-- Assumes nothing.
use mathlib.Core.Path.{◌≡◌, sym, ap, ap₂, ◌∙◌}
use mathlib.Core.Bool.{true}
use mathlib.Core.List.{List}
use Prim.Native.Nat.{ℕ, ◌+◌, ◌≤◌, ◌<◌}
use native.Mathlib.Nat.{le_antisymm}
use native.Mathlib.Decide.{ℕ_discrete}
use native.Mathlib.Omega.{arith}
use borrow.Author.Tests.{eqb-true}
use lib.Dec.{eqb}
use Rattle.ranges.proofs.Inside.{number_if_low}
use Rattle.ranges.proofs.Largest.{largest_le}
use Rattle.periods.specs.Period.{period_season}
use Rattle.readings.specs.declared.Run.{Run}
use Rattle.readings.specs.declared.Run.TheVariants.{Period}
use Rattle.readings.specs.Runs.{day_len, quarter_of, reading}
use Rattle.readings.specs.Legal.{day_peak, peak_of}
use Rattle.readings.proofs.Legal.{reading_le}
use Rattle.grid_curves.specs.Curves.{in_season, top_of, curve_at}
use Rattle.grid_curves.proofs.Curves.{curve_le, in_curve}

-- the first n days of a series: c everywhere, but v at position `at` of day `on`
pub record OneOther (run : Run) (xs : List ℕ) (n c v on at : ℕ) : Type 0 where
  pub on_in : on < n
  pub at_in : at < day_len run on
  pub low : c ≤ v
  pub there : reading run xs on at ≡ v
  pub elsewhere : (d p : ℕ) → d < n → p < day_len run d → (d ≡ on → p ≡ at → ⊥) → reading run xs d p ≡ c

module _ {run : Run} {xs : List ℕ} {n c v on at : ℕ} (o : OneOther run xs n c v on at) where
  -- every reading is c or v
  other_low : (d p : ℕ) → d < n → p < day_len run d → c ≤ reading run xs d p
  other_low d p l m = go (ℕ_discrete d on) (ℕ_discrete p at)
    where
      go : Dec (d ≡ on) → Dec (p ≡ at) → c ≤ reading run xs d p
      go (yes e) (yes f) = omega (arith, ap₂ (reading run xs) e f, o.there, o.low)
      go (no e) f = omega (arith, o.elsewhere d p l m (λ a b. e a))
      go (yes e) (no f) = omega (arith, o.elsewhere d p l m (λ a b. f b))

  other_high : (d p : ℕ) → d < n → p < day_len run d → reading run xs d p ≤ v
  other_high d p l m = go (ℕ_discrete d on) (ℕ_discrete p at)
    where
      go : Dec (d ≡ on) → Dec (p ≡ at) → reading run xs d p ≤ v
      go (yes e) (yes f) = omega (arith, ap₂ (reading run xs) e f, o.there)
      go (no e) f = omega (arith, o.elsewhere d p l m (λ a b. e a), o.low)
      go (yes e) (no f) = omega (arith, o.elsewhere d p l m (λ a b. f b), o.low)

  pub other_peak : peak_of run xs n ≡ v
  unfolding peak_of day_peak
  other_peak =
      le_antisymm (largest_le _ n v (λ d l. largest_le _ (day_len run d) v (λ p m. other_high d p l m)))
      (omega (arith, o.there, reading_le run xs n on at o.on_in o.at_in))

module _ (y : ℕ) {xs : List ℕ} {n c v on at : ℕ} (o : OneOther (Period y) xs n c v on at) where
  -- the curve that the other reading goes into
  pub curve_there : curve_at y xs n (period_season y (on + 1)) (quarter_of (Period y) on at) ≡ v
  curve_there =
      le_antisymm (omega (arith, other_peak o, curve_le y xs n (period_season y (on + 1)) (quarter_of (Period y) on at)))
      (omega (arith, o.there, in_curve y xs n on at o.on_in o.at_in))

  -- another that some reading goes into
  pub curve_else :
      (s q d p : ℕ)
      → d < n
      → p < day_len (Period y) d
      → period_season y (d + 1) ≡ s
      → quarter_of (Period y) d p ≡ q
      → (period_season y (on + 1) ≡ s → quarter_of (Period y) on at ≡ q → ⊥)
      → curve_at y xs n s q ≡ c
  unfolding curve_at top_of
  curve_else s q d p l m es eq other =
      le_antisymm
      (largest_le _ n c
      (λ e h. number_if_low (in_season y e s) (λ a. largest_le _ (day_len (Period y) e) c
      (λ r k. number_if_low (eqb (quarter_of (Period y) e r) q) (λ b. top e r h k a b)))))
      (omega (arith, other_low o d p l m, rw (es, eq) at (in_curve y xs n d p l m)))
    where
      -- a reading that goes into this curve is not the other one
      top : (e r : ℕ) → e < n → r < day_len (Period y) e → in_season y e s ≡ true → eqb (quarter_of (Period y) e r) q ≡ true → reading (Period y) xs e r ≤ c
      top e r h k a b =
          let season : e ≡ on → period_season y (on + 1) ≡ s = λ i. ap (λ (t : ℕ). period_season y (t + 1)) (sym i) ∙ eqb-true _ _ a in
          let quarter : e ≡ on → r ≡ at → quarter_of (Period y) on at ≡ q = λ i j. ap₂ (quarter_of (Period y)) (sym i) (sym j) ∙ eqb-true _ _ b in
          omega (arith, o.elsewhere e r h k (λ i j. other (season i) (quarter i j)))
