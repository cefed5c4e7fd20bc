-- Laws of a file's header: where its fields start, what a field that did not stop says, and
-- the cases of the header's answer.
-- Assumes nothing.
use mathlib.Core.Path.{◌≡◌, ap}
use mathlib.Core.Bool.{Bool, true, false, not, ◌&&◌}
use mathlib.Core.List.{List}
use Prim.Native.Nat.{ℕ, zero, suc, ◌+◌, ◌≤◌, ◌<◌}
use native.Mathlib.Numerals.{add-one}
use native.Mathlib.Decide.{dec_lt}
use native.Mathlib.Omega.{arith}
use borrow.Author.Tests.{lt-ltb, le-ltb, eq-eqb, ne_eqb, ltb-false, eqb-true, leb-true, not-false}
use lib.Dec.{leb, eqb}
use lib.ListN.{length, get_or}
use Rattle.ranges.specs.Ranges.{all_over}
use Rattle.ranges.proofs.Bools.{both, neither}
use Rattle.ranges.proofs.Sums.{sum_none, sum_more, sum_cong}
use Rattle.ranges.proofs.Tests.{all_at, Passed, passed_more}
use Rattle.ranges.proofs.First.{first_at, first_fails}
use Rattle.answers.specs.Said.{only}
use Rattle.fields.specs.declared.Span.{Span}
use Rattle.fields.specs.Layout.{Layout, start_of, field_span, Fits, cut_off, stops, first_stop, head_answer}

module _ (l : Layout) where
  pub field_none : start_of l 0 ≡ 0
  unfolding start_of
  field_none = sum_none l.width

  pub field_more : (k : ℕ) → start_of l (k + 1) ≡ start_of l k + l.width k
  unfolding start_of
  field_more k = sum_more l.width k

  pub field_rises : (k j : ℕ) → j ≤ k → start_of l j ≤ start_of l k
  field_rises zero j h =
      let e : j ≡ 0 = omega arith in
      rw e (omega arith)
  field_rises (suc k) j h = go (dec_lt k j) (field_rises k j)
    where
      more : start_of l (suc k) ≡ start_of l k + l.width k
      more = rw add-one at (field_more k)

      go : Dec (k < j) → (j ≤ k → start_of l j ≤ start_of l k) → start_of l j ≤ start_of l (suc k)
      go (yes m) ih =
          let e : j ≡ suc k = omega arith in
          rw e (omega arith)
      go (no m) ih = omega (arith, ih (omega arith), more)

  -- behind the last of n fields that have bytes nothing is added
  pub field_past : (n : ℕ) → ((k : ℕ) → n ≤ k → 0 ≡ l.width k) → (k : ℕ) → n ≤ k → start_of l n ≡ start_of l k
  field_past n none zero h =
      let e : n ≡ 0 = omega arith in
      rw e
  field_past n none (suc k) h = go (dec_lt k n) (field_past n none k)
    where
      more : start_of l (suc k) ≡ start_of l k + l.width k
      more = rw add-one at (field_more k)

      go : Dec (k < n) → (n ≤ k → start_of l n ≡ start_of l k) → start_of l n ≡ start_of l (suc k)
      go (yes m) ih =
          let e : n ≡ suc k = omega arith in
          rw e
      go (no m) ih = omega (arith, ih (omega arith), none k (omega arith), more)

-- room for more bytes in a field
pub fits_wider : {l : Layout} {few most size k : ℕ} → Fits l few size k → few ≤ most → Fits l most size k
fits_wider f h = record { few = omega (arith, f.few, h); room = f.room; field = f.field; none = f.none }

-- field k of a table of widths and a table of starts: it has a byte, at most `most`, and ends within `size` bytes
pub record Tabled (widths starts : List ℕ) (most size k : ℕ) : Type 0 where
  pub some : 1 ≤ get_or widths k 0
  pub few : get_or widths k 0 ≤ most
  pub room : get_or starts k 0 + get_or widths k 0 ≤ size

-- for all fields by one computed test
abbrev pub tabled_at : List ℕ → List ℕ → ℕ → ℕ → ℕ → Bool
tabled_at widths starts most size k = leb 1 (get_or widths k 0) && (leb (get_or widths k 0) most && leb (get_or starts k 0 + get_or widths k 0) size)

pub tabled :
    (widths starts : List ℕ) (most size n : ℕ)
    → all_over (tabled_at widths starts most size) n ≡ true
    → (k : ℕ)
    → k < n
    → Tabled widths starts most size k
tabled widths starts most size n e k l =
    let first = both _ _ (all_at (tabled_at widths starts most size) n e k l) in
    let rest = both _ _ first.1 in
    record { some = leb-true _ _ first.0; few = leb-true _ _ rest.0; room = leb-true _ _ rest.1 }

-- by the start, the width and the number of fields that a layout's laws work out
pub fits_by :
    {l : Layout} {most size k n s w : ℕ}
    → l.count ≡ n
    → s ≡ start_of l k
    → w ≡ l.width k
    → w ≤ most
    → s + w ≤ size
    → (0 < w → k < n)
    → (w ≡ 0 → n ≤ k)
    → Fits l most size k
fits_by c s w few room field none =
    record {
      few = omega arith;
      room = omega arith;
      field = λ h. omega (arith, field (omega arith));
      none = λ z. omega (arith, none (omega arith));
    }

-- the same of the span of field k, which the code has asked for
module _ {l : Layout} {most size k : ℕ} {p : Span} (fit : Fits l most size k) (e : p ≡ field_span l k) where
  pub span_width : p.width ≡ l.width k
  span_width = ap (λ (x : Span). x.width) e

  pub span_few : p.width ≤ most
  span_few = omega (arith, span_width, fit.few)

  pub is_field : 0 < p.width → k < l.count
  is_field h = fit.field (omega (arith, span_width))

  pub no_field_law : (0 < p.width → ⊥) → l.count ≤ k
  no_field_law h = fit.none (omega (arith, span_width))

-- fields of the same widths start at the same places
pub field_cong : (l m : Layout) (k : ℕ) → ((j : ℕ) → j < k → l.width j ≡ m.width j) → start_of l k ≡ start_of m k
unfolding start_of
field_cong l m k h = sum_cong l.width m.width k h

module _ (l : Layout) (bytes : List ℕ) where
  -- a field that does not stop is in the file, and not refused
  pub field_held : (k : ℕ) → stops l bytes k ≡ false → (start_of l (k + 1) ≤ length bytes) × (l.refusal k ≡ 0)
  field_held k e =
      let n = neither (cut_off l bytes k) (not (eqb (l.refusal k) 0)) e in
      (ltb-false _ _ n.0, eqb-true _ _ (not-false _ n.1))

  -- what comes after fields that do not stop starts in the file
  pub fields_held : (k : ℕ) → Passed (stops l bytes) k → start_of l k ≤ length bytes
  fields_held zero h = omega (arith, field_none l)
  fields_held (suc k) h = rw add-one at (field_held k (h.fails k (omega arith))).0

  -- the header's answer, where the first k fields do not stop
  module _ (k : ℕ) (h : Passed (stops l bytes) k) where
    pub field_passed : start_of l (k + 1) ≤ length bytes → l.refusal k ≡ 0 → Passed (stops l bytes) (k + 1)
    field_passed e z = passed_more h (simp (le-ltb (length bytes) (start_of l (k + 1)) e, eq-eqb (l.refusal k) 0 z))

    module _ (c : k < l.count) where
      here : stops l bytes k ≡ true → first_stop l bytes ≡ k
      unfolding first_stop
      here t = first_at (stops l bytes) l.count k c t h.fails

      pub head_cut : length bytes < start_of l (k + 1) → only 12 ≡ head_answer l bytes
      unfolding head_answer
      head_cut e =
          let cut : cut_off l bytes k ≡ true = lt-ltb (length bytes) (start_of l (k + 1)) e in
          simp (here (simp cut), lt-ltb k l.count c, cut)

      pub head_refused : start_of l (k + 1) ≤ length bytes → (l.refusal k ≡ 0 → ⊥) → only (l.refusal k) ≡ head_answer l bytes
      unfolding head_answer
      head_refused e z =
          let read : cut_off l bytes k ≡ false = le-ltb (length bytes) (start_of l (k + 1)) e in
          simp (here (simp (read, ne_eqb (l.refusal k) 0 z)), lt-ltb k l.count c, read)

  pub head_fine : Passed (stops l bytes) l.count → only 0 ≡ head_answer l bytes
  unfolding head_answer first_stop
  head_fine h = simp (first_fails (stops l bytes) l.count h.fails, le-ltb l.count l.count (omega arith))
