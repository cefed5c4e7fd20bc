-- A line of figures: an answer's number and the figures that follow it, one space between them and a line feed at the
-- end (in a text `\n`). Rules 10.1, 10.6 and 10.7.
use Rattle.std.specs.Prelude.{cond, List, [], ◌∷◌, ◌++◌, ℕ, suc, ◌+◌, ◌^◌, ltb, eqb, length, get_or}
use Rattle.io.specs.Digits.{last_digits}
use Rattle.ranges.specs.Ranges.{first_over}
use Rattle.answers.specs.Said.{Said}
use Rattle.encoding.specs.Bytes.{ascii}
use Rattle.texts.specs.Text.{text_over}

-- how many decimal digits a number below 10 ^ 20 has; every figure has 64 bits at most and is below that
abbrev pub digits_in : ℕ → ℕ
digits_in n = suc (first_over (λ j. ltb n (10 ^ (j + 1))) 20)

-- a number in decimal, without a zero in front of it
unfoldable pub decimal_of : ℕ → List ℕ
decimal_of n = last_digits 10 (digits_in n) n

-- field i of a line, from 0: a space stands before it, unless it is the first
unfoldable pub field_of : ℕ → ℕ → List ℕ
field_of i x = cond (eqb i 0) [] (ascii " ") ++ decimal_of x

abbrev pub field_in : List ℕ → ℕ → List ℕ
field_in figures i = field_of i (get_or figures i 0)

-- the line of some figures: the fields, then the line feed (Rule 10.1)
unfoldable pub figures_line : List ℕ → List ℕ
figures_line figures = text_over (field_in figures) (length figures) ++ ascii "\n"

-- what a statement's line has: the number, then the answer's figures in their order; and the line (Rule 10.7)
abbrev pub line_figures : Said → List ℕ
line_figures said = said.number ∷ said.figures

abbrev pub statement_line : Said → List ℕ
statement_line said = figures_line (line_figures said)

-- the word `REFUSED` and a space; and the line of a refusal by the window program: the word, then the number and, for
-- 5, day and position (Rule 10.6)
abbrev pub refused_mark : List ℕ
refused_mark = ascii "REFUSED "

unfoldable pub refused_line : List ℕ → List ℕ
refused_line figures = refused_mark ++ figures_line figures
