-- Of the places that pass a test, those with fewer than m such places before them are m, or all where there are fewer:
-- for every strict total order `before`.
-- Assumes nothing.
use mathlib.Core.Path.{◌≡◌, refl, sym, ap}
use mathlib.Core.Bool.{Bool, true, false, not, ◌&&◌}
use Prim.Native.Nat.{ℕ, zero, suc, ◌+◌, ◌≤◌, ◌<◌, min}
use native.Mathlib.Nat.{not-suc-le-zero}
use native.Mathlib.Decide.{dec_lt, ℕ_discrete}
use native.Mathlib.Omega.{arith}
use borrow.Author.Tests.{lt-ltb, ltb-true}
use lib.Dec.{ltb}
use Rattle.ranges.specs.Ranges.{bit, count_over}
use Rattle.ranges.proofs.Bools.{both, pair, clash, bit_le, bit_mono}
use Rattle.ranges.proofs.Tests.{count_none, count_suc, count_mono}

-- one place that does not count
count_but : (P Q : ℕ → Bool) (n w : ℕ) → ((k : ℕ) → k < n → P k ≡ true → (k ≡ w → ⊥) → Q k ≡ true) → count_over P n ≤ count_over Q n + 1
count_but P Q zero w h = omega (arith, count_none P)
count_but P Q (suc n) w h = go (ℕ_discrete n w) (count_but P Q n w (λ k l. h k (omega arith)))
  where
    go : Dec (n ≡ w) → count_over P n ≤ count_over Q n + 1 → count_over P (suc n) ≤ count_over Q (suc n) + 1
    go (yes e) ih = omega (arith, count_suc P n, count_suc Q n, count_mono P Q n (λ k l p. h k (omega arith) p (omega arith)), bit_le (P n))
    go (no e) ih = omega (arith, count_suc P n, count_suc Q n, ih, bit_mono (P n) (Q n) (λ p. h n (omega arith) p e))

-- nothing is counted: no place passes
count_empty : (P : ℕ → Bool) (n : ℕ) → count_over P n ≡ 0 → (k : ℕ) → k < n → P k ≡ true → ⊥
count_empty P zero e k l p = not-suc-le-zero l
count_empty P (suc n) e k l p = go (ℕ_discrete k n) (λ z m. count_empty P n z k m p)
  where
    go : Dec (k ≡ n) → (count_over P n ≡ 0 → k < n → ⊥) → ⊥
    go (yes same) ih =
        let here : P n ≡ true = rw same at p in
        let one : bit (P n) ≡ 1 = simp here in
        omega (arith, count_suc P n)
    go (no other) ih = ih (omega (arith, count_suc P n)) (omega arith)

module _
    (before : ℕ → ℕ → Bool)
    (total : (j k : ℕ) → (j ≡ k → ⊥) → before j k ≡ false → before k j ≡ true)
    (trans : (i j k : ℕ) → before i j ≡ true → before j k ≡ true → before i k ≡ true)
  where
    -- a place that passes, and that every other one that passes stands before
    data Last (P : ℕ → Bool) (n : ℕ) : Type 0 where
      none : count_over P n ≡ 0 → Last P n
      last :
          (w : ℕ)
          → w < n
          → P w ≡ true
          → ((k : ℕ) → k < n → P k ≡ true → (k ≡ w → ⊥) → before k w ≡ true)
          → Last P n

    find_last : (P : ℕ → Bool) (n : ℕ) → Last P n
    find_last P zero = none (count_none P)
    find_last P (suc n) = go (P n) refl (find_last P n)
      where
        go : (b : Bool) → P n ≡ b → Last P n → Last P (suc n)
        go false e (none z) = none (rw (count_suc, z, e))
        go false e (last w l p h) =
            last w (omega arith) p
            (λ k m q d. h k (below k m q) q d)
          where
            below : (k : ℕ) → k < suc n → P k ≡ true → k < n
            below k m q = skip (ℕ_discrete k n)
              where
                skip : Dec (k ≡ n) → k < n
                skip (yes s) = absurd (clash (rw s at q) e)
                skip (no s) = omega arith
        go true e (none z) =
            last n (omega arith) e (λ k m q d. absurd (count_empty P n z k (omega arith) q))
        go true e (last w l p h) = pick (before w n) refl
          where
            pick : (b : Bool) → before w n ≡ b → Last P (suc n)
            pick true t =
                last n (omega arith) e (λ k m q d. via k (ℕ_discrete k w) m q d)
              where
                via : (k : ℕ) → Dec (k ≡ w) → k < suc n → P k ≡ true → (k ≡ n → ⊥) → before k n ≡ true
                via k (yes s) m q d = rw s t
                via k (no s) m q d = trans k w n (h k (omega arith) q s) t
            pick false t =
                last w (omega arith) p (λ k m q d. via k (ℕ_discrete k n) m q d)
              where
                via : (k : ℕ) → Dec (k ≡ n) → k < suc n → P k ≡ true → (k ≡ w → ⊥) → before k w ≡ true
                via k (yes s) m q d = rw s (total w n (omega arith) t)
                via k (no s) m q d = h k (omega arith) q d

module _
    (before : ℕ → ℕ → Bool)
    (total : (j k : ℕ) → (j ≡ k → ⊥) → before j k ≡ false → before k j ≡ true)
    (trans : (i j k : ℕ) → before i j ≡ true → before j k ≡ true → before i k ≡ true)
    (asym : (j k : ℕ) → before j k ≡ true → before k j ≡ true → ⊥)
    (n m : ℕ)
    (p : ℕ → Bool)
  where
    abbrev ahead : ℕ → ℕ → Bool
    ahead q k = p k && before k q

    abbrev keep : ℕ → Bool
    keep q = p q && ltb (count_over (ahead q) n) m

    abbrev rest : ℕ → Bool
    rest q = p q && not (keep q)

    at_most : count_over keep n ≤ m
    at_most = go (find_last before total trans keep n)
      where
        go : Last before total trans keep n → count_over keep n ≤ m
        go (none z) = omega arith
        go (last w l t h) =
            omega (
              arith,
              count_but keep (ahead w) n w (λ k b q d. pair (both (p k) _ q).0 (h k b q d)),
              ltb-true (count_over (ahead w) n) m (both (p w) _ t).1,
            )

    kept_or : (k : ℕ) → p k ≡ true → (rest k ≡ true → ⊥) → keep k ≡ true
    kept_or k q h = go (keep k) refl
      where
        go : (b : Bool) → keep k ≡ b → keep k ≡ true
        go true e = e
        go false e = absurd (h (pair q (ap not e)))

    at_least : m ≤ count_over p n → m ≤ count_over keep n
    at_least e = go (find_last (λ j k. before k j) (λ j k d. total k j (λ s. d (sym s))) (λ i j k a b. trans k j i b a) rest n)
      where
        go :
            Last (λ j k. before k j) (λ j k d. total k j (λ s. d (sym s))) (λ i j k a b. trans k j i b a) rest n
            → m ≤ count_over keep n
        go (none z) = omega (arith, count_mono p keep n (λ k b q. kept_or k q (count_empty rest n z k b)))
        go (last w l t h) = short (dec_lt (count_over keep n) m)
          where
            itself : (k : ℕ) → k ≡ w → before k w ≡ true → ⊥
            itself k s q =
                let r : before w w ≡ true = rw s at q in
                asym w w r r

            all_before : count_over (ahead w) n ≤ count_over keep n
            all_before =
                count_mono (ahead w) keep n
                (λ k b q.
                kept_or k (both (p k) _ q).0
                (λ r. asym k w (both (p k) _ q).1 (h k b r (λ s. itself k s (both (p k) _ q).1))))

            short : Dec (count_over keep n < m) → m ≤ count_over keep n
            short (no a) = omega arith
            short (yes a) =
                let early = lt-ltb (count_over (ahead w) n) m (omega (arith, all_before)) in
                absurd (clash (both (p w) _ t).1 (ap not (pair (both (p w) _ t).0 early)))

    pub exact : count_over keep n ≡ min m (count_over p n)
    exact = go (dec_lt (count_over p n) m)
      where
        inside : count_over keep n ≤ count_over p n
        inside = count_mono keep p n (λ k b q. (both (p k) _ q).0)

        go : Dec (count_over p n < m) → count_over keep n ≡ min m (count_over p n)
        go (no a) = omega (arith, at_most, at_least (omega arith))
        go (yes a) =
            omega (
              arith,
              inside,
              count_mono p keep n
                  (λ k b q. pair q (lt-ltb (count_over (ahead k) n) m (omega (arith, count_mono (ahead k) p n (λ j c r. (both (p j) _ r).0))))),
            )
