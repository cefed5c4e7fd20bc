-- Laws of `largest_over`. The function is the first explicit argument.
-- Assumes nothing.
use mathlib.Core.Path.{◌≡◌, ap}
use Prim.Native.Nat.{ℕ, zero, suc, ◌+◌, ◌-◌, ◌≤◌, ◌<◌, max}
use native.Mathlib.Nat.{not-suc-le-zero}
use native.Mathlib.Decide.{dec_lt}
use native.Mathlib.Omega.{arith}
use Rattle.ranges.specs.Ranges.{largest_over}
use Rattle.ranges.proofs.Joined.{joined_none, joined_suc, joined_more, joined_related, joined_cong, joined_at, joined_add}

max_assoc : (x y z : ℕ) → max (max x y) z ≡ max x (max y z)
max_assoc x y z = omega arith

max_none : (x : ℕ) → max x 0 ≡ x
max_none x = omega arith

-- a place where the largest value stands
pub data Reached (f : ℕ → ℕ) (n : ℕ) : Type 0 where
  at : (k : ℕ) → k < n → f k ≡ largest_over f n → Reached f n

module _ (f : ℕ → ℕ) where
  pub largest_none : largest_over f 0 ≡ 0
  unfolding largest_over
  largest_none = joined_none max 0 f

  pub largest_suc : (n : ℕ) → largest_over f (suc n) ≡ max (largest_over f n) (f n)
  unfolding largest_over
  largest_suc n = joined_suc max 0 f n

  pub largest_more : (n : ℕ) → largest_over f (n + 1) ≡ max (largest_over f n) (f n)
  unfolding largest_over
  largest_more n = joined_more max 0 f n

  -- a range after a range
  pub largest_add : (a b : ℕ) → largest_over f (a + b) ≡ max (largest_over f a) (largest_over (λ k. f (a + k)) b)
  unfolding largest_over
  largest_add a b = joined_add max 0 f a b max_assoc max_none

  -- no value is above the largest
  pub largest_above : (n k : ℕ) → k < n → f k ≤ largest_over f n
  unfolding largest_over
  largest_above n k l = joined_at max 0 (λ m. f k ≤ m) f n k (λ a c h. omega arith) (λ a c h. omega arith) l (omega arith)

  -- a bound of each value bounds the largest
  pub largest_le : (n b : ℕ) → ((k : ℕ) → k < n → f k ≤ b) → largest_over f n ≤ b
  unfolding largest_over
  largest_le n b h = joined_related max 0 (λ m x. m ≤ b) f f n (omega arith) (λ a x c y p q. omega arith) h

  -- where there is a place at all, the largest value stands at one
  pub largest_reached : (n : ℕ) → 0 < n → Reached f n
  largest_reached zero h = absurd (not-suc-le-zero h)
  largest_reached (suc n) h = go (dec_lt 0 n) (dec_lt (f n) (largest_over f n)) (largest_reached n)
    where
      up : f n < largest_over f n → Reached f n → Reached f (suc n)
      up l (at k m e) = at k (omega arith) (omega (arith, largest_suc n))

      go : Dec (0 < n) → Dec (f n < largest_over f n) → (0 < n → Reached f n) → Reached f (suc n)
      go b (no l) ih = at n (omega arith) (omega (arith, largest_suc n))
      go (yes b) (yes l) ih = up l (ih b)
      go (no b) (yes l) ih =
          let e : n ≡ 0 = omega arith in
          absurd (omega (arith, ap (largest_over f) e, largest_none))

module _ (f g : ℕ → ℕ) (n : ℕ) where
  pub largest_cong : ((k : ℕ) → k < n → f k ≡ g k) → largest_over f n ≡ largest_over g n
  unfolding largest_over
  largest_cong h = joined_cong max 0 f g n h

  pub largest_mono : ((k : ℕ) → k < n → f k ≤ g k) → largest_over f n ≤ largest_over g n
  unfolding largest_over
  largest_mono h = joined_related max 0 (λ a b. a ≤ b) f g n (omega arith) (λ a b c d p q. omega arith) h

-- places whose values are 0 add nothing
pub largest_rest : (f : ℕ → ℕ) (m n : ℕ) → m ≤ n → ((k : ℕ) → m ≤ k → k < n → f k ≡ 0) → largest_over f m ≡ largest_over f n
largest_rest f m n h none =
    let e : n ≡ m + (n - m) = omega arith in
    let rest = largest_le (λ k. f (m + k)) (n - m) 0 (λ k l. omega (arith, none (m + k) (omega arith) (omega arith))) in
    omega (arith, ap (largest_over f) e, largest_add f m (n - m), rest)
