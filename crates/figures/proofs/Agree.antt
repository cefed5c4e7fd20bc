-- Two series of a run: where they agree in every in-window quarter, H and its place are the same; where none of the
-- second's in-window readings exceeds the first's in the same quarter, its H is no higher.
-- Assumes nothing.
use mathlib.Core.Path.{◌≡◌, refl, ap, ◌∙◌}
use mathlib.Core.Bool.{Bool, true, false, cond}
use mathlib.Core.List.{List}
use Prim.Native.Nat.{ℕ, ◌+◌, ◌≤◌, ◌<◌}
use Rattle.ranges.specs.Ranges.{any_over}
use Rattle.ranges.proofs.Largest.{largest_cong}
use Rattle.ranges.proofs.Sums.{sum_cong}
use Rattle.ranges.proofs.Inside.{place_in_law, in_cong, place_cong, in_mono}
use Rattle.readings.specs.declared.Run.{Run}
use Rattle.readings.specs.Runs.{day_len, quarter_of, reading}
use Rattle.readings.specs.Legal.{day_peak, peak_of}
use Rattle.tariff.specs.declared.Figures.{Figures}
use Rattle.figures.specs.Figures.{sum_of, any_on, high_on, quarter_on, high_in, high_day, figures_of}

module _ (run : Run) (in_window : ℕ → ℕ → Bool) (xs ys : List ℕ) (n : ℕ) where
  abbrev first : Figures
  first = figures_of run in_window xs n

  abbrev second : Figures
  second = figures_of run in_window ys n

  module _ (agree : (d p : ℕ) → d < n → p < day_len run d → in_window d p ≡ true → reading run ys d p ≡ reading run xs d p) where
    on_same : (d : ℕ) → d < n → high_on run in_window d (reading run ys d) ≡ high_on run in_window d (reading run xs d)
    unfolding high_on
    on_same d l = in_cong (in_window d) (in_window d) _ _ (day_len run d) (λ k m. refl) (λ k m. agree d k l m)

    high_same : second.high ≡ first.high
    unfolding figures_of high_in
    high_same = in_cong (any_on run in_window) (any_on run in_window) _ _ n (λ d l. refl) (λ d l t. on_same d l)

    where_same : high_day run in_window ys n ≡ high_day run in_window xs n
    unfolding high_day
    where_same = place_cong (any_on run in_window) (any_on run in_window) _ _ n (λ d l. refl) (λ d l t. on_same d l)

    day_same : second.day ≡ first.day
    unfolding figures_of
    day_same = ap (λ (d : ℕ). cond (any_over (any_on run in_window) n) (d + 1) 0) where_same

    on_quarter : (d : ℕ) → d < n → quarter_on run in_window d (reading run ys d) ≡ quarter_on run in_window d (reading run xs d)
    unfolding quarter_on
    on_quarter d l = ap (quarter_of run d) (place_cong (in_window d) (in_window d) _ _ (day_len run d) (λ k m. refl) (λ k m. agree d k l m))

    quarter_same : second.quarter ≡ first.quarter
    unfolding figures_of high_day
    quarter_same = go (any_over (any_on run in_window) n) refl
      where
        go : (b : Bool) → any_over (any_on run in_window) n ≡ b → second.quarter ≡ first.quarter
        go false e = rw e
        go true e =
            rw e
            (ap (λ (d : ℕ). quarter_on run in_window d (reading run ys d)) where_same
            ∙ on_quarter (high_day run in_window xs n) (place_in_law (any_on run in_window) _ n e))

    -- with one peak and one sum, all figures are the same
    pub figures_agree : second.peak ≡ first.peak → second.sum ≡ first.sum → second ≡ first
    unfolding figures_of
    figures_agree p s =
        λ i. record { peak = p i; sum = s i; any = any_over (any_on run in_window) n; high = high_same i; day = day_same i; quarter = quarter_same i }

  -- series that are read alike have the same figures
  pub figures_cong : ((d p : ℕ) → d < n → p < day_len run d → reading run ys d p ≡ reading run xs d p) → second ≡ first
  unfolding figures_of peak_of day_peak sum_of
  figures_cong same =
      figures_agree (λ d p l m t. same d p l m)
      (largest_cong _ _ n (λ d l. largest_cong _ _ (day_len run d) (λ p m. same d p l m)))
      (sum_cong _ _ n (λ d l. sum_cong _ _ (day_len run d) (λ p m. same d p l m)))

  pub high_under :
      ((d p : ℕ) → d < n → p < day_len run d → in_window d p ≡ true → reading run ys d p ≤ reading run xs d p)
      → second.high ≤ first.high
  unfolding figures_of high_in high_on
  high_under none =
      in_mono (any_on run in_window) _ _ n (λ d l t. in_mono (in_window d) _ _ (day_len run d) (λ p m u. none d p l m u))
