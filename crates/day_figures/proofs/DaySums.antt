-- Laws of a day's sum by four fourths side by side.
-- Assumes nothing.
use mathlib.Core.Path.{◌≡◌, ap, ◌∙◌}
use mathlib.Core.List.{List}
use Prim.Native.Nat.{ℕ, ◌+◌, ◌*◌, ◌≤◌, ◌<◌}
use native.Mathlib.Omega.{arith}
use lib.ListN.{length, get_or}
use Rattle.ranges.specs.Ranges.{sum_over}
use Rattle.ranges.proofs.Largest.{largest_above}
use Rattle.ranges.proofs.Sums.{sum_none, sum_more, sum_add}
use Rattle.readings.specs.Legal.{highest_of}
use Rattle.day_figures.specs.Passes.{four_end}

-- what a pass over the first p places of each fourth of 4 n values keeps
pub record Fourths (f : ℕ → ℕ) (n sum p : ℕ) : Type 0 where
  pub some : p ≤ n
  pub is : sum ≡ sum_over f p + sum_over (λ k. f (n + k)) p + sum_over (λ k. f (2 * n + k)) p + sum_over (λ k. f (3 * n + k)) p
  pub small : sum ≤ 4294967295 * p

module _ (f : ℕ → ℕ) (n : ℕ) where
  pub fourths_none : Fourths f n 0 0
  fourths_none =
      record {
        some = omega arith;
        is = omega (arith, sum_none f, sum_none (λ k. f (n + k)), sum_none (λ k. f (2 * n + k)), sum_none (λ k. f (3 * n + k)));
        small = omega arith;
      }

  pub fourths_more :
      {sum p four : ℕ}
      → Fourths f n sum p
      → p < n
      → (four ≡ f p + f (n + p) + f (2 * n + p) + f (3 * n + p)) × (four < 4294967296)
      → Fourths f n (sum + four) (p + 1)
  fourths_more {p = p} h l e =
      record {
        some = omega arith;
        is = omega (arith, h.is, e.0, sum_more f p, sum_more (λ k. f (n + k)) p, sum_more (λ k. f (2 * n + k)) p, sum_more (λ k. f (3 * n + k)) p);
        small = omega (arith, h.small, e.1);
      }

  pub fourths_all : {sum p m : ℕ} → Fourths f n sum p → n ≤ p → m ≡ 4 * n → sum ≡ sum_over f m
  fourths_all {sum} {p} {m} h l e =
      let at : p ≡ n = omega (arith, h.some) in
      let two : 2 * n ≡ n + n = omega arith in
      let three : 3 * n ≡ 2 * n + n = omega arith in
      let four : m ≡ 3 * n + n = omega arith in
      let a = ap (sum_over f) two ∙ sum_add f n n in
      let b = ap (sum_over f) three ∙ sum_add f (2 * n) n in
      let c = ap (sum_over f) four ∙ sum_add f (3 * n) n in
      let here : sum ≡ sum_over f n + sum_over (λ k. f (n + k)) n + sum_over (λ k. f (2 * n + k)) n + sum_over (λ k. f (3 * n + k)) n =
      h.is ∙ ap (λ (i : ℕ). sum_over f i + sum_over (λ k. f (n + k)) i + sum_over (λ k. f (2 * n + k)) i + sum_over (λ k. f (3 * n + k)) i) at in
      omega (arith, here, a, b, c)

-- no reading of a day is above its peak
pub below_peak : (day : List ℕ) (k : ℕ) → highest_of day < four_end → k < length day → get_or day k 0 < four_end
unfolding highest_of
below_peak day k h l = omega (arith, h, largest_above (λ i. get_or day i 0) (length day) k l)
