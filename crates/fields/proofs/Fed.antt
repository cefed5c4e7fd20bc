-- A machine that keeps the header's bytes in a buffer and reads each field off it takes the fields of a file; one that
-- gives the readings in a day's bytes to a machine of days (readings, proofs/Machines) takes its days.
-- Assumes nothing.
use mathlib.Core.Path.{◌≡◌, sym, ap, ◌∙◌}
use mathlib.Core.Bool.{false}
use mathlib.Core.List.{List, ◌++◌}
use Prim.Native.Nat.{ℕ, ◌+◌, ◌≤◌, ◌<◌}
use native.Mathlib.Omega.{arith}
use borrow.Author.Tests.{lt-ltb, le-ltb, ltb-true, ltb-false}
use lib.Dec.{ltb, eqb}
use lib.ListN.{length, take, drop}
use lib.Seq.{paste}
use Rattle.ranges.proofs.Tests.{Passed}
use Rattle.answers.specs.Said.{Said, only}
use Rattle.readings.specs.declared.Run.{Run}
use Rattle.readings.specs.Runs.{day_start}
use Rattle.readings.specs.Legal.{bad_in}
use Rattle.readings.specs.Days.{next_answer}
use Rattle.readings.proofs.Days.{Read}
use Rattle.readings.proofs.Machines.{Machine}
use Rattle.fields.specs.Layout.{Layout, start_of, head_size, stops}
use Rattle.fields.specs.Series.{readings_of, series_in, day_size, day_at}
use Rattle.fields.specs.File.{part}
use Rattle.fields.proofs.Bytes.{part_short, part_long, Same, buffer_same, buffer_more}
use Rattle.fields.proofs.Header.{field_more, field_rises, field_cong, fields_held}
use Rattle.fields.proofs.Days.{day_next, day_in, day_long, days_more, days_read}
use Rattle.fields.proofs.Driven.{Stopped, TakesField, TakesDay}

-- the buffer once the first n bytes of a file are read
abbrev pub held_in : List ℕ → List ℕ → ℕ → List ℕ
held_in blank bytes n = take n bytes ++ drop n blank

-- a layout that looks at no byte too early: where the bytes before a field are a file's, so is whether there is such a
-- field, and its width; where its own are too, what refuses it
pub record LooksBack (layout : List ℕ → Layout) (bytes : List ℕ) : Type 0 where
  pub counts :
      (k : ℕ)
      → k ≤ (layout bytes).count
      → (b : List ℕ)
      → Same (start_of (layout bytes) k) b bytes
      → ltb k (layout b).count ≡ ltb k (layout bytes).count
  pub widths : (k : ℕ) → k < (layout bytes).count → (b : List ℕ) → Same (start_of (layout bytes) k) b bytes → (layout b).width k ≡ (layout bytes).width k
  pub refusals :
      (k : ℕ)
      → k < (layout bytes).count
      → (b : List ℕ)
      → Same (start_of (layout bytes) (k + 1)) b bytes
      → (layout b).refusal k ≡ (layout bytes).refusal k

-- `in_head k buffer` is the state after k fields; what it does with the bytes of field k
pub record FeedsField {S X : Type 0} (wanted : S → ℕ) (fed : S → List ℕ → S) (said : S → X) (shown : Said → X)
    (layout : List ℕ → Layout) (in_head : ℕ → List ℕ → S) (k : ℕ) (buffer : List ℕ) : Type 0 where
  pub size : wanted (in_head k buffer) ≡ (layout buffer).width k
  pub cut : (b : List ℕ) → length b < (layout buffer).width k → Stopped wanted fed said shown (fed (in_head k buffer) b) (only 12)
  pub refused :
      (b next : List ℕ)
      → length b ≡ (layout buffer).width k
      → next ≡ paste buffer (start_of (layout buffer) k) b ((layout buffer).width k)
      → ((layout next).refusal k ≡ 0 → ⊥)
      → Stopped wanted fed said shown (fed (in_head k buffer) b) (only ((layout next).refusal k))
  pub taken :
      (b next : List ℕ)
      → length b ≡ (layout buffer).width k
      → next ≡ paste buffer (start_of (layout buffer) k) b ((layout buffer).width k)
      → (layout next).refusal k ≡ 0
      → fed (in_head k buffer) b ≡ in_head (k + 1) next

module _ {S X : Type 0} (wanted : S → ℕ) (fed : S → List ℕ → S) (said : S → X) (shown : Said → X)
    (layout : List ℕ → Layout) (in_head : ℕ → List ℕ → S) (blank bytes : List ℕ) (r : LooksBack layout bytes) where
  abbrev l : Layout
  l = layout bytes

  abbrev held : ℕ → List ℕ
  held k = held_in blank bytes (start_of l k)

  -- the header is read: the buffer has no further field
  pub head_over : Passed (stops l bytes) l.count → (layout (held l.count)).count ≤ l.count
  head_over h =
      ltb-false l.count (layout (held l.count)).count
      (r.counts l.count (omega arith) (held l.count) (buffer_same blank bytes (head_size l) (fields_held l bytes l.count h))
      ∙ le-ltb l.count l.count (omega arith))

  module _ (k : ℕ) (c : k < l.count) (h : Passed (stops l bytes) k) where
    same : (j : ℕ) → j ≤ k → Same (start_of l j) (held k) bytes
    same j m i b = buffer_same blank bytes (start_of l k) (fields_held l bytes k h) i (omega (arith, field_rises l k j m))

    count_is : k < (layout (held k)).count
    count_is = ltb-true k (layout (held k)).count (r.counts k (omega arith) (held k) (same k (omega arith)) ∙ lt-ltb k l.count c)

    width_is : (layout (held k)).width k ≡ l.width k
    width_is = r.widths k c (held k) (same k (omega arith))

    start_is : start_of (layout (held k)) k ≡ start_of l k
    start_is = field_cong (layout (held k)) l k (λ j m. r.widths j (omega arith) (held k) (same j (omega arith)))

    abbrev b : List ℕ
    b = part bytes (start_of l k) (l.width k)

    module _ (o : start_of l (k + 1) ≤ length bytes) where
      long : length b ≡ (layout (held k)).width k
      long = part_long bytes (start_of l k) (l.width k) (omega (arith, field_more l k)) ∙ sym width_is

      next_is : held (k + 1) ≡ paste (held k) (start_of (layout (held k)) k) b ((layout (held k)).width k)
      next_is =
          rw (start_is, width_is)
          (ap (held_in blank bytes) (field_more l k) ∙ sym (buffer_more blank bytes (start_of l k) (l.width k) (omega (arith, field_more l k))))

      number_is : (layout (held (k + 1))).refusal k ≡ l.refusal k
      number_is = r.refusals k c (held (k + 1)) (buffer_same blank bytes (start_of l (k + 1)) o)

    short : length bytes < start_of l (k + 1) → length b < (layout (held k)).width k
    short o =
        let more = field_more l k in
        omega (arith, width_is, part_short bytes (start_of l k) (l.width k) (omega arith) (omega (arith, fields_held l bytes k h)))

    pub feeds_field :
        (k < (layout (held k)).count → FeedsField wanted fed said shown layout in_head k (held k))
        → TakesField wanted fed said shown bytes l (λ j. in_head j (held j)) k
    feeds_field feeds = record {
      size = f.size ∙ width_is;
      cut = λ o. f.cut b (short o);
      refused = λ o z. rw (number_is o) at (f.refused b (held (k + 1)) (long o) (next_is o) (λ e. z (sym (number_is o) ∙ e)));
      taken = λ o z. f.taken b (held (k + 1)) (long o) (next_is o) (number_is o ∙ z);
    }
      where
        f : FeedsField wanted fed said shown layout in_head k (held k)
        f = feeds count_is

-- a machine of days after the first d days of a file
abbrev pub held_after : {T : Type 0} → Run → (List ℕ → ℕ → T) → ℕ → List ℕ → ℕ → T
held_after run holding h bytes d = holding (take (day_start run d) (series_in bytes h)) d

-- `inside t` is the state whose machine of days stands at t; what it does with the bytes of day d there
pub record FeedsDay {S T X : Type 0} (wanted : S → ℕ) (fed : S → List ℕ → S) (said : S → X) (shown : Said → X)
    (run : Run) (answer : T → List ℕ → Said) (step : T → List ℕ → T) (inside : T → S) (t : T) (d : ℕ) : Type 0 where
  pub size : wanted (inside t) ≡ day_size run d
  pub cut : (b : List ℕ) → length b < day_size run d → Stopped wanted fed said shown (fed (inside t) b) (only 4)
  pub refused :
      (b : List ℕ)
      → length b ≡ day_size run d
      → eqb (answer t (readings_of b)).number 0 ≡ false
      → Stopped wanted fed said shown (fed (inside t) b) (answer t (readings_of b))
  pub taken : (b : List ℕ) → length b ≡ day_size run d → answer t (readings_of b) ≡ only 0 → fed (inside t) b ≡ inside (step t (readings_of b))

module _ {S T X : Type 0} (wanted : S → ℕ) (fed : S → List ℕ → S) (said : S → X) (shown : Said → X)
    {run : Run} {limit : ℕ} {answer : T → List ℕ → Said} {step : T → List ℕ → T} {holding : List ℕ → ℕ → T}
    (m : Machine run limit answer step holding) (inside : T → S) (h : ℕ) (bytes : List ℕ) where
  abbrev after : ℕ → T
  after d = held_after run holding h bytes d

  pub feeds_takes :
      (d : ℕ)
      → day_at run h d ≤ length bytes
      → Passed (bad_in run limit (series_in bytes h)) d
      → FeedsDay wanted fed said shown run answer step inside (after d) d
      → TakesDay wanted fed said shown bytes run limit h (λ k. inside (after k)) d
  feeds_takes d w c f = record {
    size = f.size;
    cut = λ o. f.cut b (part_short bytes (day_at run h d) (day_size run d) (omega (arith, day_next run h d)) (omega (arith, day_next run h d)));
    refused = λ o z. rw says at (f.refused b (long o) (ap (λ (a : Said). eqb a.number 0) says ∙ z));
    taken = λ o e.
        f.taken b (long o) (says ∙ e)
        ∙ ap inside (m.takes (take (day_start run d) (series_in bytes h)) d read (day_in run h bytes d) (day_long run h bytes d o) (says ∙ e))
        ∙ ap (λ (xs : List ℕ). inside (holding xs (d + 1))) (days_more run h bytes d o);
  }
    where
      b : List ℕ
      b = part bytes (day_at run h d) (day_size run d)

      read : Read run limit (take (day_start run d) (series_in bytes h)) d
      read = days_read run h bytes limit d c w

      says : answer (after d) (day_in run h bytes d) ≡ next_answer run limit d (day_in run h bytes d)
      says = m.says (take (day_start run d) (series_in bytes h)) d read (day_in run h bytes d)

      long : day_at run h (d + 1) ≤ length bytes → length b ≡ day_size run d
      long o = part_long bytes (day_at run h d) (day_size run d) (omega (arith, day_next run h d))
