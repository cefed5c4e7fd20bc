-- Nothing else meets the promise of a call that puts a text into a buffer, and 0 is answered exactly where the buffer
-- is too short, since no text is empty.
-- Assumes nothing.
use mathlib.Core.Path.{◌≡◌, sym}
use mathlib.Core.List.{List}
use mathlib.Core.Logic.{◌↔◌}
use Prim.Native.Nat.{ℕ, ◌+◌, ◌<◌}
use native.Mathlib.Decide.{dec_lt}
use native.Mathlib.Omega.{arith}
use borrow.Author.Tests.{le-leb}
use lib.ListN.{length}
use Rattle.answers.proofs.Laws.{one_answer}
use Rattle.texts.specs.Text.{end_in, Put}
use Rattle.texts.proofs.Text.{short}

pub text_only :
    (at : ℕ) (text buffer : List ℕ) {r s : ℕ} {after later : List ℕ}
    → Put at text buffer after r
    → Put at text buffer later s
    → (r ≡ s) × (after ≡ later)
text_only at text buffer p q = (one_answer p.end q.end, one_answer p.is q.is)

-- 0 exactly where the buffer is too short
pub nothing : (text buffer : List ℕ) → 0 < length text → (end_in 0 text buffer ≡ 0) ↔ (length buffer < length text)
unfolding end_in
nothing text buffer some = (λ e. go (dec_lt (length buffer) (length text)) e, λ l. sym (short 0 text buffer (omega arith)).end)
  where
    go : Dec (length buffer < length text) → end_in 0 text buffer ≡ 0 → length buffer < length text
    go (yes l) e = l
    go (no l) e = absurd (omega (arith, rw (le-leb (0 + length text) (length buffer) (omega arith)) at e))
