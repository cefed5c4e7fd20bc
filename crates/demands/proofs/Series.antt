-- Two small series of any run, to show what a wrong module would answer: the same reading everywhere, and one reading
-- at the very start.
-- Assumes nothing.
use mathlib.Core.Path.{◌≡◌, ap}
use mathlib.Core.List.{List, ◌∷◌}
use Prim.Native.Nat.{ℕ, zero, suc, ◌+◌, ◌-◌, ◌≤◌, ◌<◌}
use native.Mathlib.Nat.{le_antisymm, not-suc-le-zero}
use native.Mathlib.Decide.{dec_lt}
use native.Mathlib.Omega.{arith}
use lib.ListN.{length, get_or, replicate, length-replicate, get_or-replicate, get_or-eq_default}
use Rattle.ranges.proofs.Largest.{largest_le}
use Rattle.readings.specs.declared.Run.{Run}
use Rattle.readings.specs.Runs.{run_days, day_len, day_start, run_readings, reading}
use Rattle.readings.specs.Legal.{day_peak, peak_of}
use Rattle.readings.proofs.Runs.{len_some, start_none, start_below, run_held}
use Rattle.readings.proofs.Legal.{reading_le}

-- zeros alone
pub zeros : (n k : ℕ) → ◌≡◌ {A = ℕ} (get_or (replicate n 0) k 0) 0
zeros n k = go (dec_lt k n)
  where
    go : Dec (k < n) → ◌≡◌ {A = ℕ} (get_or (replicate n 0) k 0) 0
    go (yes l) = get_or-replicate {A = ℕ} n k 0 0 l
    go (no l) = get_or-eq_default {A = ℕ} (replicate n 0) 0 (omega (arith, length-replicate {A = ℕ} n 0))

after_first : (v n k : ℕ) → 0 < k → get_or (v ∷ replicate n 0) k 0 ≡ 0
after_first v n zero h = absurd (not-suc-le-zero h)
after_first v n (suc k) h = zeros n k

-- readings that are at most v, the first of which is v
peak_first :
    (run : Run) (xs : List ℕ) (n v : ℕ)
    → 0 < n
    → ((d p : ℕ) → d < n → p < day_len run d → reading run xs d p ≤ v)
    → reading run xs 0 0 ≡ v
    → peak_of run xs n ≡ v
unfolding peak_of day_peak
peak_first run xs n v some low first =
    le_antisymm (largest_le _ n v (λ d l. largest_le _ (day_len run d) v (λ p m. low d p l m)))
    (omega (arith, first, reading_le run xs n 0 0 some (len_some run 0)))

module _ (run : Run) (v : ℕ) where
  -- the same reading everywhere
  abbrev pub everywhere : List ℕ
  everywhere = replicate (run_readings run) v

  pub everywhere_long : length everywhere ≡ run_readings run
  everywhere_long = length-replicate {A = ℕ} (run_readings run) v

  pub everywhere_at : (d p : ℕ) → d < run_days run → p < day_len run d → reading run everywhere d p ≡ v
  everywhere_at d p l m = get_or-replicate {A = ℕ} (run_readings run) (day_start run d + p) v 0 (omega (arith, run_held run d l))

  -- one reading at the very start
  abbrev pub at_start : List ℕ
  at_start = v ∷ replicate (run_readings run - 1) 0

  pub start_at : reading run at_start 0 0 ≡ v
  start_at = ap (λ (k : ℕ). get_or at_start (k + 0) 0) (start_none run)

  pub start_later : (d p : ℕ) → 0 < d → reading run at_start d p ≡ 0
  start_later d p l =
      after_first v (run_readings run - 1) (day_start run d + p) (omega (arith, start_below run d 0 l, len_some run 0))

  start_low : (d p : ℕ) → reading run at_start d p ≤ v
  start_low d p = go (dec_lt 0 (day_start run d + p))
    where
      go : Dec (0 < day_start run d + p) → reading run at_start d p ≤ v
      go (yes l) = omega (arith, after_first v (run_readings run - 1) (day_start run d + p) l)
      go (no l) =
          let e : day_start run d + p ≡ 0 = omega arith in
          rw e (omega arith)

  module _ (some : 0 < run_days run) where
    pub everywhere_peak : peak_of run everywhere (run_days run) ≡ v
    everywhere_peak =
        peak_first run everywhere (run_days run) v some (λ d p l m. omega (arith, everywhere_at d p l m)) (everywhere_at 0 0 some (len_some run 0))

    pub start_long : length at_start ≡ run_readings run
    start_long = omega (arith, length-replicate {A = ℕ} (run_readings run - 1) 0, run_held run 0 some, len_some run 0)

    pub start_peak : peak_of run at_start (run_days run) ≡ v
    start_peak = peak_first run at_start (run_days run) v some (λ d p l m. start_low d p) start_at
