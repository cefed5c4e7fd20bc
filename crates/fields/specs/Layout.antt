-- The header of a file: fields one behind the other, each tested once all its bytes are there. A layout lists the
-- fields of one file, in order; fields k and places in the file count from 0. Rule 10.4.
use Rattle.std.specs.Prelude.{◌≡◌, Bool, cond, not, ◌||◌, List, ℕ, ◌+◌, ◌≤◌, ◌<◌, ltb, eqb, length, get_or}
use Rattle.ranges.specs.Ranges.{sum_over, first_over}
use Rattle.answers.specs.Said.{Said, only}
use Rattle.fields.specs.declared.Span.{Span}

-- a field: the bytes that it takes, and the number that refuses it where it starts at a given place, 0 where it passes
pub record Field : Type 0 where
  pub width : ℕ
  pub refused_at : ℕ → ℕ

-- how many fields there are; the bytes that field k takes; the number that refuses it, 0 where it passes
pub record Layout : Type 0 where
  pub count : ℕ
  pub width : ℕ → ℕ
  pub refusal : ℕ → ℕ

-- the layout that lists these fields, one behind the other; behind the last stand fields of no bytes
abbrev pub no_field : Field
no_field = record { width = 0; refused_at = λ i. 0 }

abbrev pub field_at : List Field → ℕ → Field
field_at fs k = get_or fs k no_field

abbrev pub width_at : List Field → ℕ → ℕ
width_at fs k = (field_at fs k).width

unfoldable pub layout_of : List Field → Layout
layout_of fs =
    record {
      count = length fs;
      width = width_at fs;
      refusal = λ k. (field_at fs k).refused_at (sum_over (width_at fs) k);
    }

-- field k starts where the ones before it end
unfoldable pub start_of : Layout → ℕ → ℕ
start_of l k = sum_over l.width k

-- where field k stands; behind the last field this is no byte, at the header's end
abbrev pub field_span : Layout → ℕ → Span
field_span l k = record { start = start_of l k; width = l.width k }

-- the bytes of the whole header
abbrev pub head_size : Layout → ℕ
head_size l = start_of l l.count

-- what a machine has of field k of a header: it takes at most `most` bytes, the header's `size` bytes have room for it,
-- and it is a field exactly where it takes bytes
pub record Fits (l : Layout) (most size k : ℕ) : Type 0 where
  pub few : l.width k ≤ most
  pub room : start_of l k + l.width k ≤ size
  pub field : 0 < l.width k → k < l.count
  pub none : l.width k ≡ 0 → l.count ≤ k

-- field k is cut off: the file ends before all its bytes are there
abbrev pub cut_off : Layout → List ℕ → ℕ → Bool
cut_off l bytes k = ltb (length bytes) (start_of l (k + 1))

-- the first field, from 0, that is cut off or refused; the number of fields where none is
abbrev pub stops : Layout → List ℕ → ℕ → Bool
stops l bytes k = cut_off l bytes k || not (eqb (l.refusal k) 0)

unfoldable pub first_stop : Layout → List ℕ → ℕ
first_stop l bytes = first_over (stops l bytes) l.count

-- the header's answer: 12 where the first such field is cut off, else the number that refuses it; 0 where there is none
-- (Rule 10.4)
unfoldable pub head_answer : Layout → List ℕ → Said
head_answer l bytes =
    cond (ltb (first_stop l bytes) l.count)
    (cond (cut_off l bytes (first_stop l bytes)) (only 12) (only (l.refusal (first_stop l bytes))))
    (only 0)
