-- Laws of `sum_over`. The function is the first explicit argument.
-- Assumes nothing.
use mathlib.Core.Path.{◌≡◌}
use Prim.Native.Nat.{ℕ, zero, suc, ◌+◌, ◌*◌, ◌≤◌, ◌<◌}
use native.Mathlib.Nat.{add-zero, add_assoc}
use native.Mathlib.Omega.{arith}
use Rattle.ranges.specs.Ranges.{sum_over}
use Rattle.ranges.proofs.Joined.{joined_none, joined_suc, joined_more, joined_related, joined_cong, joined_at, joined_add}

module _ (f : ℕ → ℕ) where
  pub sum_none : sum_over f 0 ≡ 0
  unfolding sum_over
  sum_none = joined_none ◌+◌ 0 f

  pub sum_suc : (n : ℕ) → sum_over f (suc n) ≡ sum_over f n + f n
  unfolding sum_over
  sum_suc n = joined_suc ◌+◌ 0 f n

  pub sum_more : (n : ℕ) → sum_over f (n + 1) ≡ sum_over f n + f n
  unfolding sum_over
  sum_more n = joined_more ◌+◌ 0 f n

  -- a range after a range
  pub sum_add : (a b : ℕ) → sum_over f (a + b) ≡ sum_over f a + sum_over (λ k. f (a + k)) b
  unfolding sum_over
  sum_add a b = joined_add ◌+◌ 0 f a b add_assoc add-zero

  -- no value alone is above the sum
  pub sum_above : (n k : ℕ) → k < n → f k ≤ sum_over f n
  unfolding sum_over
  sum_above n k l = joined_at ◌+◌ 0 (λ s. f k ≤ s) f n k (λ a c h. omega arith) (λ a c h. omega arith) l (omega arith)

  -- a bound of each value bounds the sum
  pub sum_le : (n b : ℕ) → ((k : ℕ) → k < n → f k ≤ b) → sum_over f n ≤ n * b
  sum_le zero b h = omega (arith, sum_none)
  sum_le (suc n) b h = omega (arith, sum_suc n, sum_le n b (λ k l. h k (omega arith)), h n (omega arith))

module _ (f g : ℕ → ℕ) (n : ℕ) where
  pub sum_cong : ((k : ℕ) → k < n → f k ≡ g k) → sum_over f n ≡ sum_over g n
  unfolding sum_over
  sum_cong h = joined_cong ◌+◌ 0 f g n h

  pub sum_mono : ((k : ℕ) → k < n → f k ≤ g k) → sum_over f n ≤ sum_over g n
  unfolding sum_over
  sum_mono h = joined_related ◌+◌ 0 (λ a b. a ≤ b) f g n (omega arith) (λ a b c d p q. omega arith) h
