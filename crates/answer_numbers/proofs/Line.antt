-- What is listed is what the answer says: as many of the list's figures as it counts are the answer's figures.
-- Assumes nothing.
use mathlib.Core.Path.{◌≡◌, refl, ap, ◌∙◌}
use mathlib.Core.List.{List, [], ◌∷◌}
use Prim.Native.Nat.{ℕ, ◌+◌, ◌≤◌}
use native.Mathlib.Numerals.{add-one}
use native.Mathlib.Omega.{arith}
use lib.ListN.{length, take}
use Rattle.answers.specs.Said.{Said}
use Rattle.answer_numbers.specs.declared.Numbers.{Numbers}
use Rattle.answer_numbers.specs.Numbers.{Few, seven, numbers_of}

-- at most seven figures are the first of seven
first_are : (xs : List ℕ) → Few xs → take (length xs) (seven xs) ≡ xs
first_are [] h = refl
first_are (a ∷ []) h = refl
first_are (a ∷ b ∷ []) h = refl
first_are (a ∷ b ∷ c ∷ []) h = refl
first_are (a ∷ b ∷ c ∷ d ∷ []) h = refl
first_are (a ∷ b ∷ c ∷ d ∷ e ∷ []) h = refl
first_are (a ∷ b ∷ c ∷ d ∷ e ∷ f ∷ []) h = refl
first_are (a ∷ b ∷ c ∷ d ∷ e ∷ f ∷ g ∷ []) h = refl
first_are (a ∷ b ∷ c ∷ d ∷ e ∷ f ∷ g ∷ x ∷ xs) h = absurd (omega (arith, h))

-- the figures that are counted, and the number before them
pub figures_are : (s : Said) → Few s.figures → take (numbers_of s).count (numbers_of s).figures ≡ s.figures
figures_are s few = first_are s.figures few

pub line_is : (s : Said) → Few s.figures → take ((numbers_of s).count + 1) ((numbers_of s).number ∷ (numbers_of s).figures) ≡ s.number ∷ s.figures
line_is s few = rw (add-one (length s.figures)) (ap (λ (xs : List ℕ). s.number ∷ xs) (figures_are s few))

-- the same of an answer that the code has listed, and of the line that it made of it
pub line_of_law :
    {r : Numbers} (s : Said) {xs : List ℕ}
    → r ≡ numbers_of s
    → r.count ≤ 7
    → xs ≡ r.number ∷ r.figures
    → take (r.count + 1) xs ≡ s.number ∷ s.figures
line_of_law {r} s e few f =
    ap (take (r.count + 1)) f ∙ (λ i. take ((e i).count + 1) ((e i).number ∷ (e i).figures)) ∙ line_is s (rw e at few)
