-- Laws of numbers and marks in bytes: what they look at, byte by byte, and bytes that are laid over others.
-- Assumes nothing.
use mathlib.Core.Path.{◌≡◌, refl, sym, ap, ◌∙◌}
use mathlib.Core.Bool.{Bool, true, false, not, ◌&&◌, ◌||◌}
use mathlib.Core.Logic.{◌↔◌}
use mathlib.Core.List.{List, [], ◌∷◌}
use Prim.Native.Nat.{ℕ, ◌+◌, ◌-◌, ◌*◌, ◌≤◌, ◌<◌, min}
use native.Mathlib.Omega.{arith}
use borrow.Author.Tests.{eq-eqb, eqb-true, not-false}
use lib.Dec.{eqb}
use lib.ListN.{length, get_or, take, get_or-eq_default}
use lib.Seq.{paste, take-take, length-take-le}
use Rattle.std.specs.Prelude.{nat_eq}
use lib.Pointwise.{pointwise}
use Rattle.ranges.specs.Ranges.{joined, any_over, in_base}
use Rattle.ranges.proofs.Tests.{any_cong, any_fails, all_passed}
use Rattle.ranges.proofs.Digits.{base_cong}
use Rattle.encoding.specs.Bytes.{two_at, four_at, mark_size, other_mark, laid}

-- no byte stands behind the last
pub behind : (b : List ℕ) (i k : ℕ) → length b ≤ i + k → 0 ≡ get_or b (i + k) 0
behind b i k h = sym (get_or-eq_default b 0 h)

-- a number by its bytes
module _ (b : List ℕ) (i : ℕ) where
  pub two_bytes_law : two_at b i ≡ 256 * get_or b (i + 0) 0 + get_or b (i + 1) 0
  unfolding two_at in_base joined
  two_bytes_law = omega arith

  pub four_bytes_law : four_at b i ≡ 256 * (256 * (256 * get_or b (i + 0) 0 + get_or b (i + 1) 0) + get_or b (i + 2) 0) + get_or b (i + 3) 0
  unfolding four_at in_base joined
  four_bytes_law = omega arith

  -- a mark by its bytes
  pub other_mark_bytes :
      (mark : List ℕ)
      → (not (eqb (get_or b (i + 0) 0) (get_or mark 0 0))
      || not (eqb (get_or b (i + 1) 0) (get_or mark 1 0))
      || not (eqb (get_or b (i + 2) 0) (get_or mark 2 0)))
      ≡ other_mark mark b i
  unfolding other_mark any_over joined
  other_mark_bytes mark = refl

-- three bytes are other than a mark exactly when one of them is
differ : (p q r : Bool) → not (p && (q && (r && true))) ≡ (not p || not q || not r)
differ true true true = refl
differ true true false = refl
differ true false r = refl
differ false q r = refl

-- the same by an array of the three bytes
pub other_mark_array :
    (b : List ℕ) (i : ℕ) (mark : List ℕ) {x y z : ℕ}
    → length mark ≡ mark_size
    → x ≡ get_or b (i + 0) 0
    → y ≡ get_or b (i + 1) 0
    → z ≡ get_or b (i + 2) 0
    → not (pointwise nat_eq (x ∷ y ∷ z ∷ []) mark) ≡ other_mark mark b i
other_mark_array b i [] l e f g = absurd (omega arith)
other_mark_array b i (u ∷ []) l e f g = absurd (omega arith)
other_mark_array b i (u ∷ v ∷ []) l e f g = absurd (omega arith)
other_mark_array b i (u ∷ v ∷ w ∷ _ ∷ _) l e f g = absurd (omega arith)
other_mark_array b i (u ∷ v ∷ w ∷ []) {x} {y} {z} l e f g =
    differ (nat_eq x u) (nat_eq y v) (nat_eq z w)
    ∙ (λ k. not (nat_eq (e k) u) || not (nat_eq (f k) v) || not (nat_eq (g k) w))
    ∙ other_mark_bytes b i (u ∷ v ∷ w ∷ [])

-- the mark stands there exactly when each of its bytes does
pub alike : (mark b : List ℕ) (i : ℕ) → (other_mark mark b i ≡ false) ↔ ((k : ℕ) → k < mark_size → get_or b (i + k) 0 ≡ get_or mark k 0)
unfolding other_mark
alike mark b i = (
  λ e k l. eqb-true _ _ (not-false _ ((all_passed (λ j. not (eqb (get_or b (i + j) 0) (get_or mark j 0))) mark_size e).fails k l)),
  λ h. any_fails (λ j. not (eqb (get_or b (i + j) 0) (get_or mark j 0))) mark_size (λ k l. ap not (eq-eqb _ _ (h k l))),
)

-- a number, and a mark, is the same where its bytes are
module _ (a b : List ℕ) (i j : ℕ) where
  number_same :
      (n : ℕ)
      → ((k : ℕ) → k < n → get_or a (i + k) 0 ≡ get_or b (j + k) 0)
      → in_base 256 (λ k. get_or a (i + k) 0) n ≡ in_base 256 (λ k. get_or b (j + k) 0) n
  number_same n h = base_cong 256 (λ k. get_or a (i + k) 0) (λ k. get_or b (j + k) 0) n h

  pub two_same : ((k : ℕ) → k < 2 → get_or a (i + k) 0 ≡ get_or b (j + k) 0) → two_at a i ≡ two_at b j
  unfolding two_at
  two_same h = number_same 2 h

  pub four_same : ((k : ℕ) → k < 4 → get_or a (i + k) 0 ≡ get_or b (j + k) 0) → four_at a i ≡ four_at b j
  unfolding four_at
  four_same h = number_same 4 h

  pub other_mark_same : (mark : List ℕ) → ((k : ℕ) → k < mark_size → get_or a (i + k) 0 ≡ get_or b (j + k) 0) → other_mark mark a i ≡ other_mark mark b j
  unfolding other_mark
  other_mark_same mark h = any_cong _ _ mark_size (λ k l. ap (λ (x : ℕ). not (eqb x (get_or mark k 0))) (h k l))

-- bytes that all fit
pub laid_whole : (d : List ℕ) (at : ℕ) (b : List ℕ) (n : ℕ) → at + n ≤ length d → n ≤ length b → laid d at (take n b) ≡ paste d at b n
unfolding laid
laid_whole d at b n room has =
    let all : min (length (take n b)) (length d - at) ≡ n = omega (arith, length-take-le n b has) in
    rw (all, take-take n n b (omega arith))
