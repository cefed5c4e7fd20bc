-- Laws of how days stand in a series where two Sundays have an hour less and an hour more, whichever two they are: a
-- day's length, the readings before it.
-- Assumes nothing.
use mathlib.Core.Path.{◌≡◌, sym, ◌∙◌}
use Prim.Native.Nat.{ℕ, zero, suc, ◌+◌, ◌-◌, ◌*◌, ◌≤◌, ◌<◌}
use native.Mathlib.Nat.{not-suc-le-zero}
use native.Mathlib.Decide.{dec_lt, ℕ_discrete}
use native.Mathlib.Omega.{arith}
use borrow.Author.Tests.{lt-ltb, le-ltb, eq-eqb, ne_eqb}
use lib.Dec.{eqb}
use Rattle.ranges.specs.Ranges.{number_if}
use Rattle.ranges.proofs.Sums.{sum_none, sum_suc, sum_more}
use Rattle.answers.specs.Ruling.{day_quarters}
use Rattle.readings.specs.declared.Change.{Change}
use Rattle.readings.specs.Runs.{least_readings, most_readings, len_by, start_by, span_by}
use Rattle.readings.specs.Near.{four_before}

-- a day's length: it is the short Sunday, the long one, or neither
module _ (c : Change) (d : ℕ) where
  pub len_short : d ≡ c.short → len_by c d ≡ least_readings
  unfolding len_by
  len_short e = simp (eq-eqb d c.short e)

  pub len_long : (d ≡ c.short → ⊥) → d ≡ c.long → len_by c d ≡ most_readings
  unfolding len_by
  len_long n e = simp (ne_eqb d c.short n, eq-eqb d c.long e)

  pub len_usual : (d ≡ c.short → ⊥) → (d ≡ c.long → ⊥) → len_by c d ≡ day_quarters
  unfolding len_by
  len_usual n m = simp (ne_eqb d c.short n, ne_eqb d c.long m)

  -- so there are three lengths
  pub data LenKind : Type 0 where
    is_short : d ≡ c.short → len_by c d ≡ least_readings → LenKind
    is_long : (d ≡ c.short → ⊥) → d ≡ c.long → len_by c d ≡ most_readings → LenKind
    is_usual : (d ≡ c.short → ⊥) → (d ≡ c.long → ⊥) → len_by c d ≡ day_quarters → LenKind

  pub len_kind : LenKind
  len_kind = go (ℕ_discrete d c.short) (ℕ_discrete d c.long)
    where
      go : Dec (d ≡ c.short) → Dec (d ≡ c.long) → LenKind
      go (yes e) f = is_short e (len_short e)
      go (no n) (yes e) = is_long n e (len_long n e)
      go (no n) (no m) = is_usual n m (len_usual n m)

  pub lens_least : 92 ≤ len_by c d
  lens_least = go len_kind
    where
      go : LenKind → 92 ≤ len_by c d
      go (is_short a e) = omega (arith, e)
      go (is_long a b e) = omega (arith, e)
      go (is_usual a b e) = omega (arith, e)

  pub lens_most : len_by c d ≤ 100
  lens_most = go len_kind
    where
      go : LenKind → len_by c d ≤ 100
      go (is_short a e) = omega (arith, e)
      go (is_long a b e) = omega (arith, e)
      go (is_usual a b e) = omega (arith, e)

  -- a day that has more than 96 readings has 100
  pub lens_over : {n : ℕ} → n ≡ len_by c d → day_quarters < n → n ≡ most_readings
  lens_over {n} l h = go len_kind
    where
      go : LenKind → n ≡ most_readings
      go (is_short a e) = absurd (omega (arith, e, h))
      go (is_long a b e) = l ∙ e
      go (is_usual a b e) = absurd (omega (arith, e, h))

-- the readings before a day
module _ (c : Change) where
  pub starts_none : start_by c 0 ≡ 0
  unfolding start_by
  starts_none = sum_none (len_by c)

  pub starts_suc : (d : ℕ) → start_by c (suc d) ≡ start_by c d + len_by c d
  unfolding start_by
  starts_suc d = sum_suc (len_by c) d

  pub starts_more : (d : ℕ) → start_by c (d + 1) ≡ start_by c d + len_by c d
  unfolding start_by
  starts_more d = sum_more (len_by c) d

  pub starts_most : (d : ℕ) → start_by c d ≤ 100 * d
  starts_most zero = omega (arith, starts_none)
  starts_most (suc d) = omega (arith, starts_most d, starts_suc d, lens_most c d)

  -- a day of the first n stands within their readings
  pub starts_below : (n d : ℕ) → d < n → start_by c d + len_by c d ≤ start_by c n
  starts_below zero d l = absurd (not-suc-le-zero l)
  starts_below (suc n) d l = go (dec_lt d n) (starts_below n d)
    where
      go : Dec (d < n) → (d < n → start_by c d + len_by c d ≤ start_by c n) → start_by c d + len_by c d ≤ start_by c (suc n)
      go (yes m) ih = omega (arith, ih m, starts_suc n)
      go (no m) ih =
          let e : d ≡ n = omega arith in
          rw e (omega (arith, starts_suc n))

-- the four readings of a Sunday count from the day after it on
four_suc : (s d : ℕ) → four_before s (suc d) ≡ four_before s d + number_if (eqb d s) 4
four_suc s d = go (dec_lt s d) (ℕ_discrete d s)
  where
    go : Dec (s < d) → Dec (d ≡ s) → four_before s (suc d) ≡ four_before s d + number_if (eqb d s) 4
    go (yes l) (yes e) = absurd (omega arith)
    go (yes l) (no n) = simp (lt-ltb s (suc d) (omega arith), lt-ltb s d l, ne_eqb d s n)
    go (no l) (yes e) = simp (lt-ltb s (suc d) (omega arith), le-ltb s d (omega arith), eq-eqb d s e)
    go (no l) (no n) = simp (le-ltb s (suc d) (omega arith), le-ltb s d (omega arith), ne_eqb d s n)

four_none : (s : ℕ) → four_before s 0 ≡ 0
four_none s = simp (le-ltb s 0 (omega arith))

-- so a day starts behind 96 readings for each day before it, four less behind the short Sunday, four more behind the
-- long one
module _ (c : Change) where
  pub start_apart : (c.long ≡ c.short → ⊥) → (d : ℕ) → start_by c d + four_before c.short d ≡ day_quarters * d + four_before c.long d
  start_apart n zero = omega (arith, starts_none c, four_none c.short, four_none c.long)
  start_apart n (suc d) =
      omega (arith, start_apart n d, starts_suc c d, four_suc c.short d, four_suc c.long d, go (len_kind c d))
    where
      go : LenKind c d → len_by c d + number_if (eqb d c.short) 4 ≡ day_quarters + number_if (eqb d c.long) 4
      go (is_short a e) = simp (e, eq-eqb d c.short a, ne_eqb d c.long (λ b. n (sym b ∙ a)))
      go (is_long a b e) = simp (e, ne_eqb d c.short a, eq-eqb d c.long b)
      go (is_usual a b e) = simp (e, ne_eqb d c.short a, ne_eqb d c.long b)

  pub start_one : c.long ≡ c.short → (d : ℕ) → start_by c d + four_before c.short d ≡ day_quarters * d
  start_one s zero = omega (arith, starts_none c, four_none c.short)
  start_one s (suc d) = omega (arith, start_one s d, starts_suc c d, four_suc c.short d, go (len_kind c d))
    where
      go : LenKind c d → len_by c d + number_if (eqb d c.short) 4 ≡ day_quarters
      go (is_short a e) = simp (e, eq-eqb d c.short a)
      go (is_long a b e) = absurd (a (b ∙ s))
      go (is_usual a b e) = simp (e, ne_eqb d c.short a)

-- as the code puts a span together
module _ (c : Change) (d : ℕ) {lost len : ℕ} (f : lost ≡ four_before c.short d) (g : len ≡ len_by c d) where
  pub span_one : c.long ≡ c.short → (lost ≤ day_quarters * d) × (record { start = day_quarters * d - lost; len = len } ≡ span_by c d)
  span_one e =
      let at = start_one c e d in
      let start : day_quarters * d - lost ≡ start_by c d = omega arith in
      (omega arith, λ i. record { start = start i; len = g i })

  module _ (n : c.long ≡ c.short → ⊥) {more : ℕ} (h : more ≡ four_before c.long d) where
    pub span_apart : (lost ≤ day_quarters * d + more) × (record { start = day_quarters * d + more - lost; len = len } ≡ span_by c d)
    span_apart =
        let at = start_apart c n d in
        let start : day_quarters * d + more - lost ≡ start_by c d = omega arith in
        (omega arith, λ i. record { start = start i; len = g i })
