-- Laws of a year's figures: none before the first day, and a day's record taken in gives the figures of one day more.
-- Assumes nothing.
use mathlib.Core.Path.{◌≡◌, refl, sym, ap, ◌∙◌}
use mathlib.Core.Bool.{Bool, false, cond, or-true}
use mathlib.Core.List.{List}
use Prim.Native.Nat.{ℕ, ◌+◌, ◌<◌}
use Rattle.ranges.specs.Ranges.{sum_over, any_over, largest_in, place_in}
use Rattle.ranges.proofs.Largest.{largest_none, largest_more, largest_cong}
use Rattle.ranges.proofs.Sums.{sum_none, sum_more, sum_cong}
use Rattle.ranges.proofs.Tests.{any_none, any_more, any_cong}
use Rattle.ranges.proofs.Inside.{in_none, in_cong, place_cong, newer, Placed, placed}
use Rattle.ranges.proofs.Inside.Placed.{nowhere, stays, moves}
use Rattle.readings.specs.declared.Run.{Run}
use Rattle.readings.specs.Runs.{day_len, quarter_in, reading}
use Rattle.readings.specs.Legal.{day_peak, peak_of}
use Rattle.tariff.specs.declared.Figures.{Figures}
use Rattle.figures.specs.Figures.{no_figures, sum_of, any_on, high_on, quarter_on, high_in, high_day, figures_of, DayRecord, record_of, better, taken_in}

-- one place more, n from 0: the largest value then, and a figure g of its first place, 0 where no place passes
module _ (p : ℕ → Bool) (f : ℕ → ℕ) (n : ℕ) where
  pub value_more : cond (newer p f n) (f n) (largest_in p f n) ≡ largest_in p f (n + 1)
  value_more = go (placed p f n)
    where
      go : Placed p f n → cond (newer p f n) (f n) (largest_in p f n) ≡ largest_in p f (n + 1)
      go (nowhere s t v) = rw (t, v)
      go (stays s b e) = rw (b, e.value_is)
      go (moves t b e) = rw (b, e.value_is)

  abbrev pub figure_of : (ℕ → ℕ) → ℕ → ℕ
  figure_of g m = cond (any_over p m) (g (place_in p f m)) 0

  pub place_more : (g : ℕ → ℕ) → cond (newer p f n) (g n) (figure_of g n) ≡ figure_of g (n + 1)
  place_more g = go (placed p f n)
    where
      go : Placed p f n → cond (newer p f n) (g n) (figure_of g n) ≡ figure_of g (n + 1)
      go (nowhere s t v) = rw (any_more p n, t, s)
      go (stays s b e) = rw (b, any_more p n, s, e.place_is)
      go (moves t b e) = rw (b, any_more p n, t, or-true (any_over p n), e.place_is)

-- a day's record depends on the day's own positions only: which of them count, and their readings
pub record_cong :
    (n : ℕ) (t u : ℕ → Bool) (f g : ℕ → ℕ)
    → ((p : ℕ) → p < n → t p ≡ u p)
    → ((p : ℕ) → p < n → f p ≡ g p)
    → record_of n t f ≡ record_of n u g
record_cong n t u f g alike equal =
    let p = largest_cong f g n equal in
    let s = sum_cong f g n equal in
    let a = any_cong t u n alike in
    let h = in_cong t u f g n alike (λ k l e. equal k l) in
    let q = place_cong t u f g n alike (λ k l e. equal k l) in
    λ i. record { peak = p i; sum = s i; any = a i; high = h i; quarter = quarter_in n (q i) }

module _ (run : Run) (in_window : ℕ → ℕ → Bool) where
  pub figures_none : (xs : List ℕ) → no_figures ≡ figures_of run in_window xs 0
  unfolding figures_of peak_of sum_of high_in high_day
  figures_none xs =
      let a : false ≡ any_over (any_on run in_window) 0 = sym (any_none (any_on run in_window)) in
      let h = sym (in_none (any_on run in_window) (λ d. high_on run in_window d (reading run xs d))) in
      λ i. record {
        peak = sym (largest_none (day_peak run xs)) i;
        sum = sym (sum_none (λ d. sum_over (reading run xs d) (day_len run d))) i;
        any = a i;
        high = h i;
        day = ap (λ (b : Bool). cond b (high_day run in_window xs 0 + 1) 0) a i;
        quarter =
            ap (λ (b : Bool). cond b (quarter_on run in_window (high_day run in_window xs 0) (reading run xs (high_day run in_window xs 0))) 0) a i;
      }

  module _ (xs : List ℕ) (n : ℕ) where
    abbrev before : Figures
    before = figures_of run in_window xs n

    abbrev today : DayRecord
    today = record_of (day_len run n) (in_window n) (reading run xs n)

    abbrev after : Figures
    after = figures_of run in_window xs (n + 1)

    abbrev on : ℕ → ℕ
    on d = high_on run in_window d (reading run xs d)

    high_more : cond (better before today) today.high before.high ≡ after.high
    unfolding figures_of high_in any_on high_on quarter_on
    high_more = value_more (any_on run in_window) on n

    -- a law of its own, so that a changed definition of the day is refused here and not in the two laws below
    where_is : (m : ℕ) → high_day run in_window xs m ≡ place_in (any_on run in_window) on m
    unfolding high_day
    where_is m = refl

    day_more : cond (better before today) (n + 1) before.day ≡ after.day
    unfolding figures_of high_in any_on high_on quarter_on
    day_more = rw (where_is n, where_is (n + 1)) (place_more (any_on run in_window) on n (λ d. d + 1))

    quarter_more : cond (better before today) today.quarter before.quarter ≡ after.quarter
    unfolding figures_of high_in any_on high_on quarter_on
    quarter_more =
        rw (where_is n, where_is (n + 1)) (place_more (any_on run in_window) on n (λ d. quarter_on run in_window d (reading run xs d)))

    taken_series : taken_in before (n + 1) today ≡ after
    unfolding taken_in figures_of peak_of day_peak sum_of any_on
    taken_series =
        let p = sym (largest_more (day_peak run xs) n) in
        let s = sym (sum_more (λ d. sum_over (reading run xs d) (day_len run d)) n) in
        let a = sym (any_more (any_on run in_window) n) in
        λ i. record { peak = p i; sum = s i; any = a i; high = high_more i; day = day_more i; quarter = quarter_more i }

    -- the record of a day that has the series' readings, taken in
    pub taken_more :
        (day : ℕ → ℕ)
        → ((p : ℕ) → p < day_len run n → day p ≡ reading run xs n p)
        → taken_in before (n + 1) (record_of (day_len run n) (in_window n) day) ≡ after
    taken_more day same =
        ap (taken_in before (n + 1)) (record_cong (day_len run n) (in_window n) (in_window n) day (reading run xs n) (λ p l. refl) same) ∙ taken_series
