-- Text as bytes, and text in a lent buffer. A text buffer that is too short has no number of its own (14 is for the
-- buffer of a sheet): a call writes the whole text and answers its length, or writes nothing and answers 0. Places in a
-- buffer count from 0.
use Rattle.std.specs.Prelude.{◌≡◌, cond, List, [], ◌++◌, ℕ, ◌+◌, ◌≤◌, leb, length, take, drop}
use Rattle.ranges.specs.Ranges.{joined}
use Rattle.texts.specs.declared.Writer.{Writer}

-- the texts f 0, .. , f (n - 1), one behind the other
unfoldable pub text_over : (ℕ → List ℕ) → ℕ → List ℕ
text_over f n = joined ◌++◌ [] f n

-- so many bytes are enough for every text that a program prints: that of windows has never more than 49 for its first
-- line and 14 for each of the 384 quarters, and all others are shorter
abbrev pub text_most : ℕ
text_most = 5425

-- a text put into a buffer from a place on, all or nothing. This is answered: the place behind the text where the
-- buffer has room for it, else the place itself.
unfoldable pub end_in : ℕ → List ℕ → List ℕ → ℕ
end_in at text buffer = cond (leb (at + length text) (length buffer)) (at + length text) at

-- and this is the buffer then: the text there, all other bytes as before; or every byte as before
unfoldable pub put_in : ℕ → List ℕ → List ℕ → List ℕ
put_in at text buffer = cond (leb (at + length text) (length buffer)) (take at buffer ++ (text ++ drop (at + length text) buffer)) buffer

-- a call answers r, and the buffer d became e. Every text of a program is put at place 0: so its length is answered, or
-- 0.
pub record Put (at : ℕ) (text d e : List ℕ) (r : ℕ) : Type 0 where
  pub end : r ≡ end_in at text d
  pub is : e ≡ put_in at text d

-- a step of the writing, where the text t fits
pub record Wrote (d : List ℕ) (at : ℕ) (t : List ℕ) (e : List ℕ) (r : ℕ) : Type 0 where
  pub room : at + length t ≤ length d
  pub end : r ≡ at + length t
  pub same : length e ≡ length d
  pub is : e ≡ take at d ++ (t ++ drop (at + length t) d)

-- a text that is being written: has its buffer room for the text t behind what is written?
abbrev pub HasRoom : Writer → List ℕ → Type 0
HasRoom s t = s.at + length t ≤ length s.buf.now

-- the text t was put behind what was written, all or nothing, into the buffer that was lent
pub record Puts (s : Writer) (t : List ℕ) (e : Writer) : Type 0 where
  pub lent : e.buf.ghost_name ≡ s.buf.ghost_name
  pub put : Put s.at t s.buf.now e.buf.now e.at

-- it was written there: it had room
pub record Writes (s : Writer) (t : List ℕ) (e : Writer) : Type 0 where
  pub lent : e.buf.ghost_name ≡ s.buf.ghost_name
  pub wrote : Wrote s.buf.now s.at t e.buf.now e.at
