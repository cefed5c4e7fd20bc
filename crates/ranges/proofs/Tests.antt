-- Laws of `count_over`, `any_over` and `all_over`. The test is the first explicit argument.
-- Assumes nothing.
use mathlib.Core.Path.{◌≡◌, refl, sym, ap, ◌∙◌}
use mathlib.Core.Bool.{Bool, true, false, ◌&&◌, ◌||◌, or_assoc, or-false, or-true, and-false}
use mathlib.Core.Logic.{⊎_elim}
use Prim.Native.Nat.{ℕ, zero, suc, ◌+◌, ◌-◌, ◌≤◌, ◌<◌}
use native.Mathlib.Nat.{not-suc-le-zero}
use native.Mathlib.Decide.{dec_lt}
use native.Mathlib.Omega.{arith}
use borrow.Author.Count.{below_more}
use borrow.Author.Tests.{lt-ltb, le-ltb}
use lib.Dec.{ltb}
use Rattle.ranges.specs.Ranges.{bit, count_over, any_over, all_over}
use Rattle.ranges.proofs.Bools.{decided, clash, bit_le, bit_mono}
use Rattle.ranges.proofs.Joined.{joined_none, joined_more, joined_related, joined_cong, joined_at, joined_add}
use Rattle.ranges.proofs.Sums.{sum_none, sum_suc, sum_more, sum_add, sum_le, sum_cong, sum_mono}

-- count_over
module _ (p : ℕ → Bool) where
  pub count_none : count_over p 0 ≡ 0
  unfolding count_over
  count_none = sum_none _

  pub count_suc : (n : ℕ) → count_over p (suc n) ≡ count_over p n + bit (p n)
  unfolding count_over
  count_suc n = sum_suc _ n

  pub count_more : (n : ℕ) → count_over p (n + 1) ≡ count_over p n + bit (p n)
  unfolding count_over
  count_more n = sum_more _ n

  -- a turn of a loop that counts
  pub counted : (n : ℕ) {m b : ℕ} → m ≡ count_over p n → b ≡ bit (p n) → m + b ≡ count_over p (n + 1)
  counted n e f = rw (count_more n, e, f)

  pub count_add : (a b : ℕ) → count_over p (a + b) ≡ count_over p a + count_over (λ k. p (a + k)) b
  unfolding count_over
  count_add a b = sum_add _ a b

  pub count_le : (n : ℕ) → count_over p n ≤ n
  unfolding count_over
  count_le n = omega (arith, sum_le _ n 1 (λ k l. bit_le (p k)))

  -- every place passes: all are counted
  pub count_all : (n : ℕ) → ((k : ℕ) → k < n → p k ≡ true) → count_over p n ≡ n
  count_all zero h = count_none
  count_all (suc n) h = rw (count_suc, count_all n (λ k l. h k (omega arith)), h n (omega arith)) (omega arith)

  -- none passes: nothing is counted
  pub count_fails : (n : ℕ) → ((k : ℕ) → k < n → p k ≡ false) → count_over p n ≡ 0
  count_fails zero h = count_none
  count_fails (suc n) h = rw (count_suc, count_fails n (λ k l. h k (omega arith)), h n (omega arith))

module _ (p q : ℕ → Bool) (n : ℕ) where
  pub count_cong : ((k : ℕ) → k < n → p k ≡ q k) → count_over p n ≡ count_over q n
  unfolding count_over
  count_cong h = sum_cong _ _ n (λ k l. ap bit (h k l))

  pub count_mono : ((k : ℕ) → k < n → p k ≡ true → q k ≡ true) → count_over p n ≤ count_over q n
  unfolding count_over
  count_mono h = sum_mono _ _ n (λ k l. bit_mono (p k) (q k) (h k l))

-- q places are below q
pub count_below : (q n : ℕ) → q ≤ n → count_over (λ p. ltb p q) n ≡ q
count_below q n h =
    let e : q + (n - q) ≡ n = omega arith in
    ap (count_over (λ p. ltb p q)) (sym e)
    ∙ count_add (λ p. ltb p q) q (n - q)
    ∙ omega (arith, count_all (λ p. ltb p q) q (λ k l. lt-ltb k q l), count_fails (λ k. ltb (q + k) q) (n - q) (λ k l. le-ltb (q + k) q (omega arith)))

-- where each place counts for one test what it counts for two others together, so does a range
pub count_parts :
    (p a b : ℕ → Bool) (n : ℕ)
    → ((k : ℕ) → k < n → bit (p k) ≡ bit (a k) + bit (b k))
    → count_over p n ≡ count_over a n + count_over b n
count_parts p a b zero h = simp count_none
count_parts p a b (suc n) h =
    omega (arith, count_parts p a b n (λ k l. h k (omega arith)), h n (omega arith), count_suc p n, count_suc a n, count_suc b n)

-- fewer pass the first test, where one place passes the second alone
pub count_less :
    (p q : ℕ → Bool) (n k : ℕ)
    → ((j : ℕ) → j < n → p j ≡ true → q j ≡ true)
    → k < n
    → q k ≡ true
    → p k ≡ false
    → count_over p n < count_over q n
count_less p q zero k h l t f = absurd (not-suc-le-zero l)
count_less p q (suc n) k h l t f = go (dec_lt k n) (count_less p q n k (λ j m. h j (omega arith)))
  where
    go : Dec (k < n) → (k < n → q k ≡ true → p k ≡ false → count_over p n < count_over q n) → count_over p (suc n) < count_over q (suc n)
    go (yes m) ih = omega (arith, ih m t f, count_suc p n, count_suc q n, bit_mono (p n) (q n) (h n (omega arith)))
    go (no m) ih =
        let e : k ≡ n = omega arith in
        omega (arith, count_mono p q n (λ j m. h j (omega arith)), count_suc p n, count_suc q n, ap bit (rw e at t), ap bit (rw e at f))

-- any_over
module _ (p : ℕ → Bool) where
  pub any_none : any_over p 0 ≡ false
  unfolding any_over
  any_none = joined_none ◌||◌ false p

  pub any_more : (n : ℕ) → any_over p (n + 1) ≡ (any_over p n || p n)
  unfolding any_over
  any_more n = joined_more ◌||◌ false p n

  pub any_add : (a b : ℕ) → any_over p (a + b) ≡ (any_over p a || any_over (λ k. p (a + k)) b)
  unfolding any_over
  any_add a b = joined_add ◌||◌ false p a b or_assoc or-false

  -- one place that passes is enough
  pub any_at : (n k : ℕ) → k < n → p k ≡ true → any_over p n ≡ true
  unfolding any_over
  any_at n k l h = joined_at ◌||◌ false (λ b. b ≡ true) p n k (λ a c e. rw e) (λ a c e. rw e (or-true a)) l h

  -- no place passes
  pub any_fails : (n : ℕ) → ((k : ℕ) → k < n → p k ≡ false) → any_over p n ≡ false
  unfolding any_over
  any_fails n h = joined_related ◌||◌ false (λ b x. b ≡ false) p p n refl (λ a x c y e f. rw e f) h

pub any_cong : (p q : ℕ → Bool) (n : ℕ) → ((k : ℕ) → k < n → p k ≡ q k) → any_over p n ≡ any_over q n
unfolding any_over
any_cong p q n h = joined_cong ◌||◌ false p q n h

-- what a search keeps: none of the first n places passes
pub record Passed (p : ℕ → Bool) (n : ℕ) : Type 0 where
  pub fails : (k : ℕ) → k < n → p k ≡ false

module _ {p : ℕ → Bool} where
  pub passed_none : Passed p 0
  passed_none = record { fails = λ k l. absurd (not-suc-le-zero l) }

  pub passed_more : {n : ℕ} → Passed p n → p n ≡ false → Passed p (n + 1)
  passed_more {n} h e = record { fails = below_more _ n h.fails e }

-- the search is through; nothing was found
pub passed_all : (p : ℕ → Bool) (n : ℕ) → Passed p n → any_over p n ≡ false
passed_all p n h = any_fails p n h.fails

pub all_passed : (p : ℕ → Bool) (n : ℕ) → any_over p n ≡ false → Passed p n
all_passed p n e = record { fails = λ k l. ⊎_elim (λ h. absurd (clash (any_at p n k l h) e)) (λ h. h) (decided (p k)) }

-- all_over: a rule for each place below n by one test that the checker computes
pub all_at : (p : ℕ → Bool) (n : ℕ) → all_over p n ≡ true → (k : ℕ) → k < n → p k ≡ true
unfolding all_over
all_at p n e k l =
    ⊎_elim (λ h. h)
    (λ h. absurd (clash e (joined_at ◌&&◌ true (λ b. b ≡ false) p n k (λ a c f. rw f) (λ a c f. rw f (and-false a)) l h)))
    (decided (p k))
