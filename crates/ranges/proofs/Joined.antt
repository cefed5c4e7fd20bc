-- Laws of `joined`, once for every word that is made of it: an empty range, one place more, values that agree or are
-- related at each place, what one place brings in, and a range after a range.
-- Assumes nothing.
use mathlib.Core.Path.{◌≡◌, refl, sym, ap, ap₂, ◌∙◌}
use Prim.Native.Nat.{ℕ, zero, suc, ◌+◌, ◌<◌}
use mathlib.Core.Logic.{⊎_elim}
use native.Mathlib.Nat.{add-zero, add-suc, not-suc-le-zero, eq-or-lt_of_le, le_of_suc-le-suc}
use native.Mathlib.Numerals.{add-one}
use native.Mathlib.Omega.{arith}
use Rattle.ranges.specs.Ranges.{joined}

module _ {A : Type 0} (join : A → A → A) (start : A) where
  pub joined_none : (f : ℕ → A) → joined join start f 0 ≡ start
  unfolding joined
  joined_none f = refl

  pub joined_suc : (f : ℕ → A) (n : ℕ) → joined join start f (suc n) ≡ join (joined join start f n) (f n)
  unfolding joined
  joined_suc f n = refl

  pub joined_more : (f : ℕ → A) (n : ℕ) → joined join start f (n + 1) ≡ join (joined join start f n) (f n)
  unfolding joined
  joined_more f n = rw add-one

  -- what holds of the starts, and of two joined values where it holds of their parts, holds over the whole range
  pub joined_related :
      (R : A → A → Type 0) (f g : ℕ → A) (n : ℕ)
      → R start start
      → ((a b c d : A) → R a b → R c d → R (join a c) (join b d))
      → ((k : ℕ) → k < n → R (f k) (g k))
      → R (joined join start f n) (joined join start g n)
  unfolding joined
  joined_related R f g zero s j h = s
  joined_related R f g (suc n) s j h = j _ _ _ _ (joined_related R f g n s j (λ k l. h k (omega arith))) (h n (omega arith))

  pub joined_cong : (f g : ℕ → A) (n : ℕ) → ((k : ℕ) → k < n → f k ≡ g k) → joined join start f n ≡ joined join start g n
  joined_cong f g n h = joined_related (◌≡◌ {A = A}) f g n refl (λ a b c d. ap₂ join) h

  -- what a value brings into every join, the whole range has from each of its places
  pub joined_at :
      (P : A → Type 0) (f : ℕ → A) (n k : ℕ)
      → ((a c : A) → P a → P (join a c))
      → ((a c : A) → P c → P (join a c))
      → k < n
      → P (f k)
      → P (joined join start f n)
  unfolding joined
  joined_at P f zero k left right l h = absurd (not-suc-le-zero l)
  joined_at P f (suc n) k left right l h =
      ⊎_elim (λ (e : k ≡ n). right _ _ (rw e at h)) (λ (m : k < n). left _ _ (joined_at P f n k left right m h))
      (eq-or-lt_of_le (le_of_suc-le-suc l))

  -- a range after a range, where joining is associative and the start adds nothing
  pub joined_add :
      (f : ℕ → A) (a b : ℕ)
      → ((x y z : A) → join (join x y) z ≡ join x (join y z))
      → ((x : A) → join x start ≡ x)
      → joined join start f (a + b) ≡ join (joined join start f a) (joined join start (λ k. f (a + k)) b)
  unfolding joined
  joined_add f a zero assoc unit = ap (joined join start f) (add-zero a) ∙ sym (unit _)
  joined_add f a (suc b) assoc unit =
      ap (joined join start f) (add-suc a b)
      ∙ ap (λ (x : A). join x (f (a + b))) (joined_add f a b assoc unit)
      ∙ assoc _ _ _
