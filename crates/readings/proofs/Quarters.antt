-- Laws of the quarter that a position stands for, on a day of any length.
-- Assumes nothing.
use mathlib.Core.Path.{◌≡◌}
use mathlib.Core.Bool.{true, false}
use mathlib.Core.Logic.{⊎_elim}
use Prim.Native.Nat.{ℕ, ◌+◌, ◌-◌, ◌≤◌, ◌<◌}
use native.Mathlib.Decide.{dec_lt, ℕ_discrete}
use native.Mathlib.Omega.{arith}
use borrow.Author.Tests.{lt-ltb, le-ltb, eq-eqb, ne_eqb}
use Rattle.ranges.specs.Limits.{outside}
use Rattle.ranges.proofs.Bools.{decided, within}
use Rattle.answers.specs.Ruling.{day_quarters}
use Rattle.readings.specs.Runs.{least_readings, most_readings, quarter_in}

-- on a day that is neither Sunday, position p stands for quarter p
pub quarter_plain : (n p : ℕ) → (n ≡ least_readings → ⊥) → (n ≡ most_readings → ⊥) → quarter_in n p ≡ p
unfolding quarter_in
quarter_plain n p a b = simp (ne_eqb n least_readings a, ne_eqb n most_readings b)

-- the first position stands for the first quarter on every day
pub quarter_first : (n : ℕ) → quarter_in n 0 ≡ 0
unfolding quarter_in
quarter_first n = go (ℕ_discrete n least_readings) (ℕ_discrete n most_readings)
  where
    go : Dec (n ≡ least_readings) → Dec (n ≡ most_readings) → quarter_in n 0 ≡ 0
    go (yes e) b = simp (eq-eqb n least_readings e)
    go (no a) (yes e) = simp (ne_eqb n least_readings a, eq-eqb n most_readings e)
    go (no a) (no b) = quarter_plain n 0 a b

-- on the short Sunday: the positions from 8 to 91 stand for quarters four later, all others for themselves
module _ (n p : ℕ) (e : n ≡ least_readings) where
  pub short_stays : outside 8 91 p ≡ true → quarter_in n p ≡ p
  unfolding quarter_in
  short_stays o = simp (eq-eqb n least_readings e, o)

  pub short_moves : outside 8 91 p ≡ false → quarter_in n p ≡ p + 4
  unfolding quarter_in
  short_moves o = simp (eq-eqb n least_readings e, o)

  pub short_early : p < 8 → quarter_in n p ≡ p
  short_early l = short_stays (simp (lt-ltb p 8 l))

  pub short_late : 8 ≤ p → p < least_readings → quarter_in n p ≡ p + 4
  short_late a b = short_moves ((within 8 91 p).1 (record { from = a; to = omega arith }))

-- on the long one: up to the end of the hour that comes twice, and from its second time on
module _ (n p : ℕ) (e : n ≡ most_readings) where
  other : n ≡ least_readings → ⊥
  other f = omega arith

  pub long_early : p < 12 → quarter_in n p ≡ p
  unfolding quarter_in
  long_early l = simp (ne_eqb n least_readings other, eq-eqb n most_readings e, lt-ltb p 12 l)

  pub long_late : 12 ≤ p → quarter_in n p ≡ p - 4
  unfolding quarter_in
  long_late l = simp (ne_eqb n least_readings other, eq-eqb n most_readings e, le-ltb p 12 l)

-- no position stands for a quarter that is more than four later
pub quarter_near : (n p : ℕ) {q : ℕ} → q ≡ quarter_in n p → q ≤ p + 4
quarter_near n p {q} e = go (ℕ_discrete n least_readings) (ℕ_discrete n most_readings) (dec_lt p 12)
  where
    go : Dec (n ≡ least_readings) → Dec (n ≡ most_readings) → Dec (p < 12) → q ≤ p + 4
    go (yes a) b g = ⊎_elim (λ o. omega (arith, e, short_stays n p a o)) (λ o. omega (arith, e, short_moves n p a o)) (decided (outside 8 91 p))
    go (no a) (yes b) (yes g) = omega (arith, e, long_early n p b g)
    go (no a) (yes b) (no g) = omega (arith, e, long_late n p b (omega arith))
    go (no a) (no b) g = omega (arith, e, quarter_plain n p a b)

-- a position of a day stands for one of 96 quarters, on a day that has 100 readings where it has more than 96
pub quarter_fits : (n p : ℕ) → (day_quarters < n → n ≡ most_readings) → p < n → quarter_in n p < day_quarters
quarter_fits n p over l = go (ℕ_discrete n least_readings) (ℕ_discrete n most_readings) (dec_lt p 8) (dec_lt p 12)
  where
    go : Dec (n ≡ least_readings) → Dec (n ≡ most_readings) → Dec (p < 8) → Dec (p < 12) → quarter_in n p < day_quarters
    go (yes e) b (yes f) g = omega (arith, short_early n p e f)
    go (yes e) b (no f) g = omega (arith, short_late n p e (omega arith) (omega arith))
    go (no a) (yes e) f (yes g) = omega (arith, long_early n p e g)
    go (no a) (yes e) f (no g) = omega (arith, long_late n p e (omega arith))
    go (no a) (no b) f g = small (dec_lt 96 n)
      where
        small : Dec (96 < n) → quarter_in n p < day_quarters
        small (yes m) = absurd (b (over m))
        small (no m) = omega (arith, quarter_plain n p a b)
