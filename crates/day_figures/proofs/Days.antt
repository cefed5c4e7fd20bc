-- Laws of a stretch of days taken in, day after day: the sum stays small, and figures of the days before become those
-- of all.
-- Assumes nothing.
use mathlib.Core.Path.{◌≡◌, refl, ap, ◌∙◌}
use mathlib.Core.Bool.{Bool, false}
use mathlib.Core.List.{List}
use Prim.Native.Nat.{ℕ, zero, suc, ◌+◌, ◌*◌, ◌≤◌, ◌<◌}
use native.Mathlib.Numerals.{add-one}
use native.Mathlib.Omega.{arith}
use lib.ListN.{length, get_or}
use Rattle.ranges.specs.Ranges.{sum_over}
use Rattle.ranges.proofs.Sums.{sum_le}
use Rattle.readings.specs.declared.Run.{Run}
use Rattle.readings.specs.declared.Change.{Change}
use Rattle.readings.specs.Runs.{change_of, len_by, day_len, reading_by, reading}
use Rattle.readings.proofs.Spans.{lens_most}
use Rattle.tariff.specs.declared.Figures.{Figures}
use Rattle.figures.specs.Figures.{sum_of, figures_of, record_of, taken_in}
use Rattle.figures.proofs.Taken.{record_cong, taken_more}
use Rattle.day_figures.specs.Day.{in_row, alone, with_day, day_most, row_if, with_days}
use Rattle.day_figures.specs.Passes.{all_ones}

-- a day adds at most 100 readings of 32 bits, and so does each of the first n days
day_most_law : (change : Change) (d : ℕ) (at : ℕ → ℕ) → ((p : ℕ) → at p ≤ all_ones) → sum_over at (len_by change d) ≤ day_most
day_most_law change d at s = omega (arith, sum_le at (len_by change d) all_ones (λ p l. s p), lens_most change d)

pub figures_most :
    (run : Run) (in_window : ℕ → ℕ → Bool) (xs : List ℕ) (n : ℕ)
    → ((i : ℕ) → get_or xs i 0 ≤ all_ones)
    → (figures_of run in_window xs n).sum ≤ day_most * n
unfolding figures_of sum_of
figures_most run in_window xs n s =
    omega (arith, sum_le _ n day_most (λ d l. day_most_law (change_of run) d (reading run xs d) (λ p. s _)))

module _ (f : Figures) (change : Change) (from : ℕ) (flags row : List Bool) (xs : List ℕ) where
  abbrev after : ℕ → Figures
  after n = with_days f change from flags row xs n

  pub days_none : f ≡ after 0
  unfolding with_days
  days_none = refl

  -- one day more, given as the part of the series that is its own
  pub days_more :
      (n : ℕ) {g : Figures} (day : List ℕ)
      → g ≡ after n
      → length day ≡ len_by change (from + n)
      → ((p : ℕ) → p < len_by change (from + n) → alone day p ≡ reading_by change xs (from + n) p)
      → with_day g (length day) (from + n) (row_if (get_or flags n false) row) (alone day) ≡ after (n + 1)
  unfolding with_days
  days_more n day e l same =
      let d = from + n in
      let len = len_by change d in
      let counts = in_row len (row_if (get_or flags n false) row) in
      rw (add-one n, l)
      (ap (λ (f : Figures). taken_in f (d + 1) (record_of len counts (alone day))) e
      ∙ ap (taken_in (after n) (d + 1)) (record_cong len counts counts (alone day) (reading_by change xs d) (λ p l. refl) same))

  pub days_sum : ((i : ℕ) → get_or xs i 0 ≤ all_ones) → (n : ℕ) → (after n).sum ≤ f.sum + day_most * n
  unfolding with_days taken_in
  days_sum s zero = omega arith
  days_sum s (suc n) = omega (arith, days_sum s n, day_most_law change (from + n) (reading_by change xs (from + n)) (λ p. s _))

-- f are the figures of a run's days before, and on the days of the stretch counts by the row what counts by the test
module _
    (f : Figures) (run : Run) (from : ℕ) (flags row : List Bool) (xs : List ℕ)
    (in_window : ℕ → ℕ → Bool) (e : f ≡ figures_of run in_window xs from)
  where
    abbrev Same : ℕ → Type 0
    Same k = (p : ℕ) → p < day_len run (from + k) → in_row (day_len run (from + k)) (row_if (get_or flags k false) row) p ≡ in_window (from + k) p

    pub days_figures : (n : ℕ) → ((k : ℕ) → k < n → Same k) → with_days f (change_of run) from flags row xs n ≡ figures_of run in_window xs (from + n)
    unfolding with_days
    days_figures zero same = e ∙ ap (figures_of run in_window xs) here
      where
        here : from ≡ from + 0
        here = omega arith
    days_figures (suc n) same =
        let d = from + n in
        let len = day_len run d in
        let day = reading run xs d in
        let counts = in_row len (row_if (get_or flags n false) row) in
        let more : from + n + 1 ≡ from + suc n = omega arith in
        ap (λ (g : Figures). taken_in g (d + 1) (record_of len counts day)) (days_figures n (λ k l. same k (omega arith)))
        ∙ ap (taken_in (figures_of run in_window xs d) (d + 1)) (record_cong len counts (in_window d) day day (same n (omega arith)) (λ p l. refl))
        ∙ taken_more run in_window xs d day (λ p l. refl)
        ∙ ap (figures_of run in_window xs) more
