-- Laws of `first_over`. The test is the first explicit argument.
-- Assumes nothing.
use mathlib.Core.Path.{◌≡◌, refl, sym, ap, ◌∙◌}
use mathlib.Core.Bool.{Bool, true, false, cond}
use mathlib.Core.Logic.{⊎_elim}
use Prim.Native.Nat.{ℕ, zero, suc, ◌+◌, ◌-◌, ◌≤◌, ◌<◌}
use native.Mathlib.Nat.{not-suc-le-zero}
use native.Mathlib.Numerals.{add-one}
use native.Mathlib.Decide.{dec_lt}
use native.Mathlib.Omega.{arith}
use borrow.Author.Count.{below_none, below_more}
use borrow.Author.Tests.{lt-ltb, le-ltb}
use lib.Dec.{ltb}
use Rattle.ranges.specs.Ranges.{largest_over, any_over, first_over}
use Rattle.ranges.proofs.Bools.{decided, clash}
use Rattle.ranges.proofs.Largest.{Reached, at, largest_none, largest_above, largest_reached}
use Rattle.ranges.proofs.Tests.{any_at, any_fails}

-- where the search for a first place stands: it found one, the test failing before it, or it passed all n places
pub data Searched (p : ℕ → Bool) (n : ℕ) : ℕ → Type 0 where
  found : (k : ℕ) → k < n → p k ≡ true → ((j : ℕ) → j < k → p j ≡ false) → Searched p n k
  passed : ((j : ℕ) → j < n → p j ≡ false) → Searched p n n

module _ (p : ℕ → Bool) where
  pub first_none : first_over p 0 ≡ 0
  unfolding first_over
  first_none = refl

  -- no place passes
  pub first_fails : (n : ℕ) → ((k : ℕ) → k < n → p k ≡ false) → first_over p n ≡ n
  unfolding first_over
  first_fails zero h = refl
  first_fails (suc n) h = simp (first_fails n (λ k l. h k (omega arith)), le-ltb n n (omega arith), h n (omega arith))

  -- place k passes, and none before it
  pub first_at : (n k : ℕ) → k < n → p k ≡ true → ((j : ℕ) → j < k → p j ≡ false) → first_over p n ≡ k
  unfolding first_over
  first_at zero k l t h = absurd (not-suc-le-zero l)
  first_at (suc n) k l t h = go (dec_lt k n) (first_at n k)
    where
      go : Dec (k < n) → (k < n → p k ≡ true → ((j : ℕ) → j < k → p j ≡ false) → first_over p n ≡ k) → first_over p (suc n) ≡ k
      go (yes m) ih = simp (ih m t h, lt-ltb k n m)
      go (no m) ih =
          let e : k ≡ n = omega arith in
          let none : first_over p n ≡ n = rw e at (first_fails k h) in
          let here : p n ≡ true = rw e at t in
          simp (none, le-ltb n n (omega arith), here) (sym e)

  -- the definition says what a search finds
  next : {n m : ℕ} → Searched p n m → Searched p (suc n) (first_over p (suc n))
  next {n} (found k l t h) = rw (first_at (suc n) k (omega arith) t h) (found k (omega arith) t h)
  next {n} (passed h) =
      ⊎_elim (λ t. rw (first_at (suc n) n (omega arith) t h) (found n (omega arith) t h))
      (λ f. let all = rw add-one at (below_more (λ j. p j ≡ false) n h f) in rw (first_fails (suc n) all) (passed all))
      (decided (p n))

  pub searched : (n : ℕ) → Searched p n (first_over p n)
  searched zero = rw first_none (passed (below_none _))
  searched (suc n) = next (searched n)

  pub first_le : (n : ℕ) → first_over p n ≤ n
  first_le n = go (searched n)
    where
      go : {m : ℕ} → Searched p n m → m ≤ n
      go (found k l t h) = omega arith
      go (passed h) = omega arith

  -- the test fails before the first place, and passes there
  pub first_below : (n k : ℕ) → k < first_over p n → p k ≡ false
  first_below n k b = go (searched n) b
    where
      go : {m : ℕ} → Searched p n m → k < m → p k ≡ false
      go (found i l t h) = h k
      go (passed h) = h k

  pub first_holds : (n : ℕ) → first_over p n < n → p (first_over p n) ≡ true
  first_holds n b = go (searched n) b
    where
      go : {m : ℕ} → Searched p n m → m < n → p m ≡ true
      go (found k l t h) b = t
      go (passed h) b = absurd (omega arith)

  -- a test that passes somewhere has a first place
  pub any_first : (n : ℕ) → any_over p n ≡ ltb (first_over p n) n
  any_first n = go (searched n)
    where
      go : {m : ℕ} → Searched p n m → any_over p n ≡ ltb m n
      go (found k l t h) = any_at p n k l t ∙ sym (lt-ltb k n l)
      go (passed h) = any_fails p n h ∙ sym (le-ltb n n (omega arith))

  -- one place more
  pub first_more : (n : ℕ) → first_over p (n + 1) ≡ cond (ltb (first_over p n) n) (first_over p n) (cond (p n) n (n + 1))
  unfolding first_over
  first_more n = rw add-one

-- the test fails over a range and over the range after it
through :
    (p : ℕ → Bool) (a n : ℕ)
    → ((j : ℕ) → j < a → p j ≡ false)
    → ((j : ℕ) → j < n → p (a + j) ≡ false)
    → (j : ℕ)
    → j < a + n
    → p j ≡ false
through p a n h g j l = go (dec_lt j a)
  where
    go : Dec (j < a) → p j ≡ false
    go (yes b) = h j b
    go (no b) =
        let e : a + (j - a) ≡ j = omega arith in
        rw e at (g (j - a) (omega arith))

-- a range after a range
pub first_add : (p : ℕ → Bool) (a b : ℕ) → first_over p (a + b) ≡ cond (ltb (first_over p a) a) (first_over p a) (a + first_over (λ k. p (a + k)) b)
first_add p a b = go (searched p a) (searched (λ k. p (a + k)) b)
  where
    go : {m n : ℕ} → Searched p a m → Searched (λ k. p (a + k)) b n → first_over p (a + b) ≡ cond (ltb m a) m (a + n)
    go (found k l t h) s = simp (lt-ltb k a l) (first_at p (a + b) k (omega arith) t h)
    go (passed h) (found k l t g) =
        simp (le-ltb a a (omega arith)) (first_at p (a + b) (a + k) (omega arith) t (through p a k h g))
    go (passed h) (passed g) = simp (le-ltb a a (omega arith)) (first_fails p (a + b) (through p a b h g))

module _ (p q : ℕ → Bool) (n : ℕ) where
  pub first_cong : ((k : ℕ) → k < n → p k ≡ q k) → first_over p n ≡ first_over q n
  first_cong h = go (searched q n)
    where
      go : {m : ℕ} → Searched q n m → first_over p n ≡ m
      go (found k l t f) = first_at p n k l (h k l ∙ t) (λ j b. h j (omega arith) ∙ f j b)
      go (passed f) = first_fails p n (λ j b. h j b ∙ f j b)

  -- a test that passes more often passes no later
  pub first_mono : ((k : ℕ) → k < n → p k ≡ true → q k ≡ true) → first_over q n ≤ first_over p n
  first_mono h = go (searched p n)
    where
      go : {m : ℕ} → Searched p n m → first_over q n ≤ m
      go (found k l t f) = early (dec_lt k (first_over q n))
        where
          early : Dec (k < first_over q n) → first_over q n ≤ k
          early (yes b) = absurd (clash (h k l t) (first_below q n k b))
          early (no b) = omega arith
      go (passed f) = first_le q n

-- some value is above a bound exactly where the largest is
pub any_above : (f : ℕ → ℕ) (b n : ℕ) → any_over (λ k. ltb b (f k)) n ≡ ltb b (largest_over f n)
any_above f b n = go (dec_lt b (largest_over f n))
  where
    at_one : b < largest_over f n → Reached f n → any_over (λ k. ltb b (f k)) n ≡ true
    at_one h (at k l e) = any_at (λ k. ltb b (f k)) n k l (lt-ltb b (f k) (omega arith))

    some : b < largest_over f n → Dec (0 < n) → any_over (λ k. ltb b (f k)) n ≡ true
    some h (yes l) = at_one h (largest_reached f n l)
    some h (no l) =
        let e : n ≡ 0 = omega arith in
        absurd (omega (arith, ap (largest_over f) e, largest_none f))

    go : Dec (b < largest_over f n) → any_over (λ k. ltb b (f k)) n ≡ ltb b (largest_over f n)
    go (yes h) = some h (dec_lt 0 n) ∙ sym (lt-ltb b (largest_over f n) h)
    go (no h) =
        any_fails (λ k. ltb b (f k)) n (λ k l. le-ltb b (f k) (omega (arith, largest_above f n k l)))
        ∙ sym (le-ltb b (largest_over f n) (omega arith))
