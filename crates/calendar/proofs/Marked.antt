-- The marks that the code makes of a holiday list say what the list says.
-- Assumes nothing.
use mathlib.Core.Path.{◌≡◌, sym, ◌∙◌}
use mathlib.Core.Bool.{Bool, true, false, or-false, or-true}
use mathlib.Core.List.{List}
use Prim.Native.Nat.{ℕ, ◌+◌, ◌-◌, ◌≤◌, ◌<◌}
use native.Mathlib.Decide.{dec_lt, ℕ_discrete}
use native.Mathlib.Omega.{arith}
use borrow.Author.Tests.{lt-ltb, le-ltb, eq-eqb, ne_eqb}
use lib.Dec.{eqb}
use lib.ListN.{length, get_or, set, length-set}
use lib.Seq.{get_or-set_same, get_or-set_other}
use Rattle.ranges.specs.Ranges.{any_over}
use Rattle.ranges.proofs.Tests.{any_none, any_more}
use Rattle.dates.specs.Dates.{most_days}
use Rattle.holidays.specs.Holidays.{listed}
use Rattle.day_kinds.specs.Kinds.{candidate, free, bridge, kind_by, kind_of}
use Rattle.calendar.specs.Marks.{last_mark, mark_places, mark_place, marked, Marks}

-- entry j is day d
abbrev pub is_day : List ℕ → ℕ → ℕ → Bool
is_day hs d j = eqb (get_or hs j 0) d

-- what the loop keeps: the first k entries are marked
pub record Marking (hs : List ℕ) (k : ℕ) (m : List Bool) : Type 0 where
  pub some : k ≤ length hs
  pub long : length m ≡ mark_places
  pub each : (d : ℕ) → d < last_mark → marked m d ≡ any_over (is_day hs d) k

module _ (hs : List ℕ) where
  pub marking_none : {m : List Bool} → length m ≡ mark_places → ((d : ℕ) → d < last_mark → marked m d ≡ false) → Marking hs 0 m
  marking_none e f = record { some = omega arith; long = e; each = λ d b. f d b ∙ sym (any_none (is_day hs d)) }

  pub marking_more : {k at : ℕ} {m : List Bool} → Marking hs k m → k < length hs → at ≡ mark_place (get_or hs k 0) → Marking hs (k + 1) (set m at true)
  marking_more {k} {at} {m} h l p =
      record { some = omega arith; long = simp length-set h.long; each = λ d b. go d b (ℕ_discrete (get_or hs k 0) d) }
    where
      -- another day has another place
      elsewhere : (d : ℕ) → d < last_mark → (get_or hs k 0 ≡ d → ⊥) → Dec (get_or hs k 0 < last_mark) → d ≡ at → ⊥
      elsewhere d b n (yes c) e = n (sym (e ∙ p ∙ simp (lt-ltb _ _ c)))
      elsewhere d b n (no c) e =
          let f : at ≡ last_mark = p ∙ simp (le-ltb (get_or hs k 0) last_mark (omega arith)) in
          omega arith

      go : (d : ℕ) → d < last_mark → Dec (get_or hs k 0 ≡ d) → marked (set m at true) d ≡ any_over (is_day hs d) (k + 1)
      go d b (yes e) =
          let a : at ≡ d = p ∙ simp (e, lt-ltb d last_mark b) in
          let s : marked (set m at true) d ≡ true = rw a (get_or-set_same m d true false (omega (arith, h.long))) in
          s ∙ simp (any_more, eq-eqb (get_or hs k 0) d e) (sym (or-true (any_over (is_day hs d) k)))
      go d b (no n) =
          get_or-set_other m at d true false (elsewhere d b n (dec_lt (get_or hs k 0) last_mark))
          ∙ h.each d b
          ∙ simp (any_more, ne_eqb (get_or hs k 0) d n) (sym (or-false (any_over (is_day hs d) k)))

  pub marking_all : {k : ℕ} {m : List Bool} → Marking hs k m → length hs ≤ k → Marks hs m
  unfolding listed
  marking_all {k} h l =
      let e : k ≡ length hs = omega arith in
      record { each = λ d b. rw e at (h.each d b) }

-- so a day of the year is of the same kind by the marks and by the list
pub by_marks : (y : ℕ) (hs : List ℕ) (m : List Bool) (d : ℕ) → Marks hs m → d ≤ most_days → kind_by y (marked m) d ≡ kind_of y hs d
unfolding kind_by bridge candidate free
by_marks y hs m d h b =
    simp (
      h.each d (omega arith),
      h.each (d + 1) (omega arith),
      h.each (d - 1) (omega arith),
      h.each (d - 4) (omega arith),
      h.each (d - 4 + 1) (omega arith),
    )
