-- How long the day program's words, lines and texts are: so the line of a day fits into its array, and the program's
-- buffer holds every text.
-- Assumes nothing.
use mathlib.Core.Path.{◌≡◌, refl, ap}
use mathlib.Core.Bool.{true, false}
use mathlib.Core.Logic.{◌⊎◌, inl, inr, ⊎_elim}
use mathlib.Core.List.{List}
use Prim.Native.Nat.{ℕ, ◌≤◌, ◌<◌}
use native.Mathlib.Decide.{dec_lt}
use native.Mathlib.Omega.{arith}
use borrow.Author.Tests.{ne_eqb, leb-true}
use lib.Dec.{eqb, leb}
use lib.ListN.{length, get_or, length-append, length-take}
use Rattle.ranges.specs.Ranges.{all_over, joined}
use Rattle.ranges.proofs.Bools.{decided}
use Rattle.ranges.proofs.Tests.{all_at}
use Rattle.answers.specs.Said.{Said}
use Rattle.dates.specs.Dates.{weekday_of}
use Rattle.texts.specs.Text.{text_most}
use Rattle.day_text.specs.Asked.{no_dates, year_at, day_at, why_answer}
use Rattle.day_text.specs.Text.{weekday_name, kind_word, day_line, wrong_line, usage_line, said_line, why_text}
use Rattle.day_text.proofs.Laws.{sunday}

-- no weekday's name has more than nine letters
pub weekday_short : (w : ℕ) → length (weekday_name w) ≤ 9
unfolding weekday_name all_over joined
weekday_short w = go (dec_lt 5 w)
  where
    go : Dec (5 < w) → length (weekday_name w) ≤ 9
    go (yes l) = omega (arith, ap length (sunday w l))
    go (no l) = leb-true _ _ (all_at (λ v. leb (length (weekday_name v)) 9) 6 refl w (omega arith))

-- no kind's word has more than ten
bridge_word : (code : ℕ) → 4 < code → kind_word 5 ≡ kind_word code
unfolding kind_word
bridge_word code h =
    simp (
      ne_eqb code 1 (λ e. omega (arith, h, e)),
      ne_eqb code 2 (λ e. omega (arith, h, e)),
      ne_eqb code 3 (λ e. omega (arith, h, e)),
      ne_eqb code 4 (λ e. omega (arith, h, e)),
    )

pub word_short : (code : ℕ) → length (kind_word code) ≤ 10
unfolding kind_word all_over joined
word_short code = go (dec_lt 4 code)
  where
    go : Dec (4 < code) → length (kind_word code) ≤ 10
    go (yes l) = omega (arith, ap length (bridge_word code l))
    go (no l) = leb-true _ _ (all_at (λ c. leb (length (kind_word c)) 10) 5 refl code (omega arith))

-- the lines
line_short : (b : List ℕ) (code : ℕ) → length (day_line b code) ≤ 32
unfolding day_line
line_short b code = simp (length-append, length-take) (omega (arith, weekday_short (weekday_of (year_at b 0) (day_at b 0)), word_short code))

wrong_short : (number : ℕ) → length (wrong_line number) ≤ 69
unfolding wrong_line
wrong_short number = go (decided (eqb number 1)) (decided (eqb number 3))
  where
    go : (eqb number 1 ≡ true) ⊎ (eqb number 1 ≡ false) → (eqb number 3 ≡ true) ⊎ (eqb number 3 ≡ false) → length (wrong_line number) ≤ 69
    go (inl e) t = rw e (omega arith)
    go (inr f) (inl e) = rw (f, e) (omega arith)
    go (inr f) (inr g) = rw (f, g) (omega arith)

said_short : (b : List ℕ) (said : Said) → length (said_line b said) ≤ text_most
said_short b said =
    ⊎_elim (λ e. rw e (omega (arith, line_short b (get_or said.figures 0 0))))
    (λ f. rw f (omega (arith, wrong_short said.number))) (decided (eqb said.number 0))

-- every text fits into the buffer that the program lends
pub text_short : (b : List ℕ) → length (why_text b) ≤ text_most
unfolding why_text usage_line
text_short b = ⊎_elim (λ e. rw e (omega arith)) (λ f. rw f (said_short b (why_answer b))) (decided (no_dates b))
