-- S, which is defined day by day, is the sum of the series' readings, one after the other.
-- Assumes nothing.
use mathlib.Core.Path.{◌≡◌, sym, ap, ◌∙◌}
use mathlib.Core.List.{List}
use Prim.Native.Nat.{ℕ, zero, suc, ◌+◌}
use lib.ListN.{get_or}
use Rattle.ranges.specs.Ranges.{sum_over}
use Rattle.ranges.proofs.Sums.{sum_none, sum_suc, sum_add}
use Rattle.readings.specs.declared.Run.{Run}
use Rattle.readings.specs.Runs.{day_len, day_start, reading}
use Rattle.readings.proofs.Runs.{start_none, start_suc}
use Rattle.figures.specs.Figures.{sum_of}

module _ (run : Run) (xs : List ℕ) where
  abbrev at : ℕ → ℕ
  at i = get_or xs i 0

  pub sum_flat : (n : ℕ) → sum_of run xs n ≡ sum_over at (day_start run n)
  unfolding sum_of
  sum_flat zero = sum_none _ ∙ sym (ap (sum_over at) (start_none run) ∙ sum_none at)
  sum_flat (suc n) =
      sum_suc (λ d. sum_over (reading run xs d) (day_len run d)) n
      ∙ ap (λ (s : ℕ). s + sum_over (reading run xs n) (day_len run n)) (sum_flat n)
      ∙ sym (sum_add at (day_start run n) (day_len run n))
      ∙ ap (sum_over at) (sym (start_suc run n))
