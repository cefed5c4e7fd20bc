-- Laws of two tests taken together, of a test that decides between values, of two orders that are one
-- test, and of the test of two limits.
-- Assumes nothing.
use mathlib.Core.Path.{◌≡◌, refl, sym, ◌∙◌}
use mathlib.Core.Bool.{Bool, true, false, ◌&&◌, ◌||◌, false≢true}
use mathlib.Core.Logic.{◌⊎◌, inl, inr, ◌↔◌}
use Prim.Native.Nat.{ℕ, ◌≤◌, ◌<◌}
use native.Mathlib.Decide.{dec_lt}
use native.Mathlib.Omega.{arith}
use borrow.Author.Tests.{lt-ltb, le-ltb, ltb-false}
use lib.Dec.{ltb}
use Rattle.ranges.specs.Limits.{Within, outside}
use Rattle.ranges.specs.Ranges.{bit}

-- a test passes or fails, and says so
pub decided : (b : Bool) → (b ≡ true) ⊎ (b ≡ false)
decided true = inl refl
decided false = inr refl

pub both : (a b : Bool) → (a && b) ≡ true → (a ≡ true) × (b ≡ true)
both true b e = (refl, e)
both false b e = absurd (false≢true e)

pub pair : {a b : Bool} → a ≡ true → b ≡ true → (a && b) ≡ true
pair p q = simp (p, q)

pub either : (a b : Bool) → (a || b) ≡ true → (a ≡ true) ⊎ (b ≡ true)
either true b e = inl refl
either false b e = inr e

pub neither : (a b : Bool) → (a || b) ≡ false → (a ≡ false) × (b ≡ false)
neither true b e = absurd (false≢true (sym e))
neither false b e = (refl, e)

-- one test does not both pass and fail
pub clash : {b : Bool} → b ≡ true → b ≡ false → ⊥
clash p q = false≢true (sym q ∙ p)

-- a test counts as one or as nothing
pub bit_le : (b : Bool) → bit b ≤ 1
bit_le true = omega arith
bit_le false = omega arith

pub bit_mono : (a b : Bool) → (a ≡ true → b ≡ true) → bit a ≤ bit b
bit_mono false b h = omega arith
bit_mono true b h = rw (h refl) (omega arith)

-- a test that fails exactly when A holds passes exactly when A does not
pub refutes : {A : Type 0} (t : Bool) → (t ≡ false) ↔ A → (t ≡ true) ↔ (A → ⊥)
refutes true h = (λ e a. clash refl (h.1 a), λ n. refl)
refutes false h = (λ e. absurd (clash e refl), λ n. absurd (n (h.0 refl)))

-- two orders that hold together, and fail together, are one test
pub same_order : (a b c d : ℕ) → (a < b → c < d) → (b ≤ a → d ≤ c) → ltb a b ≡ ltb c d
same_order a b c d f g = go (dec_lt a b)
  where
    go : Dec (a < b) → ltb a b ≡ ltb c d
    go (yes l) = lt-ltb a b l ∙ sym (lt-ltb c d (f l))
    go (no l) = le-ltb a b (omega arith) ∙ sym (le-ltb c d (g (omega arith)))

-- a number lies outside two limits exactly when it is not within them
pub within : (a b x : ℕ) → (outside a b x ≡ false) ↔ Within a b x
within a b x = (
  λ e. let n = neither (ltb x a) (ltb b x) e in record { from = ltb-false x a n.0; to = ltb-false b x n.1 },
  λ h. simp (le-ltb x a h.from, le-ltb b x h.to),
)
