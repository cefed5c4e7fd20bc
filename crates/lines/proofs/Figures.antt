-- Laws of a line of figures: a number's digits are the fewest that hold it, a field's two cases, and when a line fits.
-- Assumes nothing.
use mathlib.Core.Path.{◌≡◌, refl, sym, ap, ◌∙◌}
use mathlib.Core.Bool.{false}
use mathlib.Core.List.{List, [], ◌∷◌, ◌++◌}
use Prim.Native.Nat.{ℕ, zero, suc, ◌+◌, ◌-◌, ◌/◌, ◌%◌, ◌^◌, ◌≤◌, ◌<◌}
use native.Mathlib.Numerals.{add-one}
use native.Mathlib.Nat.{pow-le-pow_right, le_trans}
use native.Mathlib.Decide.{dec_lt, dec_le, ℕ_discrete}
use native.Mathlib.Omega.{arith}
use borrow.Author.Tests.{lt-ltb, le-ltb, le-leb, lt-leb, eq-eqb, ne_eqb}
use lib.Dec.{ltb, leb, lit<}
use lib.ListN.{length, length-append}
use Rattle.io.specs.Digits.{last_digits, hex_digit_ascii, IsDigitCount}
use Rattle.ranges.proofs.First.{first_at, first_le}
use Rattle.texts.specs.Text.{text_over}
use Rattle.lines.specs.Figures.{digits_in, decimal_of, field_of, field_in, figures_line, refused_mark, refused_line}
use Rattle.texts.proofs.Text.{text_more, text_room}

-- digits: how many, and the fewest that hold the number
length_digits : (k n : ℕ) → length (last_digits 10 k n) ≡ k
length_digits zero n = refl
length_digits (suc k) n = omega (arith, length-append (last_digits 10 k (n / 10)) (hex_digit_ascii (n % 10) ∷ []), length_digits k (n / 10))

fewer : {n k : ℕ} → n < 2 ^ 64 → (1 < k → 10 ^ (k - 1) ≤ n) → Dec (k ≤ 20) → k ≤ 20
fewer f g (yes p) = p
fewer {n} {k} f g (no p) =
    let less : 10 ^ 20 ≤ 10 ^ (k - 1) = pow-le-pow_right {n = 10} (lit< tt) {i = 20} {j = k - 1} (omega arith) in
    let most : 10 ^ (k - 1) ≤ n = g (omega arith) in
    omega (arith, le_trans less most)

module _ {n k : ℕ} (small : n < 2 ^ 64) (few : IsDigitCount 10 1 n k) where
  pub at_most_20 : k ≤ 20
  at_most_20 = fewer small few.2 (dec_le k 20)

  digits_in_law : k ≡ digits_in n
  digits_in_law =
      let j : ℕ = k - 1 in
      let e : k ≡ j + 1 = omega (arith, few.0) in
      let l : j < 20 = omega (arith, few.0, at_most_20) in
      let here : n < 10 ^ (j + 1) = rw e at few.1 in
      e
      ∙ add-one j
      ∙ ap suc
      (sym (first_at (λ i. ltb n (10 ^ (i + 1))) 20 j l (lt-ltb n (10 ^ (j + 1)) here)
      (λ i b. le-ltb n (10 ^ (i + 1)) (le_trans (pow-le-pow_right {n = 10} (lit< tt) {i = i + 1} {j = j} (omega arith)) (few.2 (omega arith))))))

  pub decimal_is : last_digits 10 k n ≡ decimal_of n
  unfolding decimal_of
  decimal_is = ap (λ (j : ℕ). last_digits 10 j n) digits_in_law

  pub decimal_long : k ≡ length (decimal_of n)
  decimal_long = sym (length_digits k n) ∙ ap length decimal_is

decimal_short : (n : ℕ) → length (decimal_of n) ≤ 21
unfolding decimal_of
decimal_short n = omega (arith, length_digits (digits_in n) n, first_le (λ j. ltb n (10 ^ (j + 1))) 20)

-- a field: the first, and any other
pub field_first : (i x : ℕ) → i ≡ 0 → decimal_of x ≡ field_of i x
unfolding field_of
field_first i x e = rw (eq-eqb i 0 e)

pub field_next : (i x : ℕ) → (i ≡ 0 → ⊥) → (32 ∷ []) ++ decimal_of x ≡ field_of i x
unfolding field_of
field_next i x e = rw (ne_eqb i 0 e)

pub field_short : (i x : ℕ) → length (field_of i x) ≤ 22
field_short i x = go (ℕ_discrete i 0)
  where
    go : Dec (i ≡ 0) → length (field_of i x) ≤ 22
    go (yes e) = omega (arith, ap length (field_first i x e), decimal_short x)
    go (no e) = omega (arith, ap length (field_next i x e), decimal_short x)

-- a line
pub figures_long : (figures : List ℕ) → length (figures_line figures) ≡ length (text_over (field_in figures) (length figures)) + 1
unfolding figures_line
figures_long figures = length-append (text_over (field_in figures) (length figures)) (10 ∷ [])

pub figures_is : (figures : List ℕ) → text_over (field_in figures) (length figures) ++ (10 ∷ []) ≡ figures_line figures
unfolding figures_line
figures_is figures = refl

-- a refusal
pub refused_is : (figures : List ℕ) → refused_mark ++ figures_line figures ≡ refused_line figures
unfolding refused_line
refused_is figures = refl

pub refused_long : (figures : List ℕ) → length (refused_line figures) ≡ 8 + length (figures_line figures)
unfolding refused_line
refused_long figures = length-append refused_mark (figures_line figures)

-- neither line is empty
pub some_figures : (figures : List ℕ) → 0 < length (figures_line figures)
some_figures figures = omega (arith, figures_long figures)

pub some_refused : (figures : List ℕ) → 0 < length (refused_line figures)
some_refused figures = omega (arith, refused_long figures)

-- does a line fit: i fields are counted, and what is left of the room
module _ (figures : List ℕ) (left i : ℕ) {room : ℕ} (h : left + length (text_over (field_in figures) i) ≡ room) where
  pub fit_stops : i < length figures → left < length (field_in figures i) → false ≡ leb (length (figures_line figures)) room
  fit_stops l m =
      sym (lt-leb (length (figures_line figures)) room (omega (arith, figures_long figures, text_room (field_in figures) (length figures) i l)))

  pub fit_more : {need : ℕ} → need ≡ length (field_in figures i) → need ≤ left → left - need + length (text_over (field_in figures) (i + 1)) ≡ room
  fit_more e m = omega (arith, ap length (text_more (field_in figures) i), length-append (text_over (field_in figures) i) (field_in figures i))

  pub fit_all : i ≡ length figures → ltb 0 left ≡ leb (length (figures_line figures)) room
  fit_all e = go (dec_lt 0 left)
    where
      all : left + length (text_over (field_in figures) (length figures)) ≡ room
      all = rw e at h

      go : Dec (0 < left) → ltb 0 left ≡ leb (length (figures_line figures)) room
      go (yes l) = lt-ltb 0 left l ∙ sym (le-leb (length (figures_line figures)) room (omega (arith, figures_long figures, all)))
      go (no l) = le-ltb 0 left (omega arith) ∙ sym (lt-leb (length (figures_line figures)) room (omega (arith, figures_long figures, all)))
