-- An answer as plain numbers, for a line of text and for a caller in Rust or C, to whom no enum can be handed: its
-- number, how many figures follow it, and the figures in the order of the table of answers, with 0 behind the last.
-- Figures count from 0. Rules 8.1 and 10.7.
use Rattle.std.specs.Prelude.{List, [], ◌∷◌, ℕ, ◌≤◌, length, get_or}
use Rattle.answers.specs.Said.{Said}
use Rattle.answer_numbers.specs.declared.Numbers.{Numbers}

-- no answer has more than seven figures: c, g, M, S, H, day, quarter (Rule 8.1)
abbrev pub Few : List ℕ → Type 0
Few figures = length figures ≤ 7

-- seven figures, with 0 behind the last
abbrev pub seven : List ℕ → List ℕ
seven figures =
    let at : ℕ → ℕ = λ k. get_or figures k 0 in
    at 0 ∷ at 1 ∷ at 2 ∷ at 3 ∷ at 4 ∷ at 5 ∷ at 6 ∷ []

-- an answer as plain numbers
abbrev pub numbers_of : Said → Numbers
numbers_of s = record { number = s.number; count = length s.figures; figures = seven s.figures }
