-- Laws of the holiday list: what a search through it keeps, and that it is refused exactly when it is not legal (Rule
-- 2.6).
-- Assumes nothing.
use mathlib.Core.Path.{◌≡◌, sym}
use mathlib.Core.Bool.{Bool, true, false, or-true}
use mathlib.Core.Logic.{◌↔◌}
use mathlib.Core.List.{List}
use Prim.Native.Nat.{ℕ, zero, suc, ◌+◌, ◌≤◌, ◌<◌}
use native.Mathlib.Numerals.{add-one}
use native.Mathlib.Omega.{arith}
use borrow.Author.Tests.{lt-ltb, le-ltb, lt-leb, ltb-false, leb-false}
use lib.Dec.{leb, ltb}
use lib.ListN.{length, get_or}
use Rattle.ranges.specs.Ranges.{any_over}
use Rattle.ranges.proofs.Bools.{neither}
use Rattle.ranges.proofs.Tests.{Passed, any_at, any_fails, all_passed}
use Rattle.answers.specs.Ruling.{holidays_most}
use Rattle.dates.specs.Dates.{year_days}
use Rattle.holidays.specs.Holidays.{before, bad_holiday, bad_entry, bad_holidays, LegalHolidays}

-- the entry before the next one is this one
pub before_next : (hs : List ℕ) (k : ℕ) → get_or hs k 0 ≡ before hs (k + 1)
before_next hs k = rw add-one

module _ (y : ℕ) (hs : List ℕ) where
  -- an entry is tested beside the one before
  pub entry : {b : Bool} (k : ℕ) {last : ℕ} → last ≡ before hs k → bad_holiday y last (get_or hs k 0) ≡ b → bad_entry y hs k ≡ b
  entry k e t = rw e at t

  pub bad_long : holidays_most < length hs → true ≡ bad_holidays y hs
  unfolding bad_holidays
  bad_long h = simp (lt-ltb _ _ h)

  pub bad_at_law : (k : ℕ) → bad_entry y hs k ≡ true → k < length hs → true ≡ bad_holidays y hs
  unfolding bad_holidays
  bad_at_law k e l = rw (any_at (bad_entry y hs) (length hs) k l e) (sym (or-true (ltb holidays_most (length hs))))

  pub bad_none : {k : ℕ} → Passed (bad_entry y hs) k → length hs ≤ holidays_most → length hs ≤ k → false ≡ bad_holidays y hs
  unfolding bad_holidays
  bad_none h s l = simp (le-ltb _ _ s, any_fails (bad_entry y hs) (length hs) (λ k b. h.fails k (omega arith)))

  -- an entry keeps its rule
  kept : (k : ℕ) → bad_entry y hs k ≡ false → (before hs k < get_or hs k 0) × (get_or hs k 0 ≤ year_days y)
  kept k e =
      let b = neither (leb (get_or hs k 0) (before hs k)) (ltb (year_days y) (get_or hs k 0)) e in
      (leb-false (get_or hs k 0) (before hs k) b.0, ltb-false (year_days y) (get_or hs k 0) b.1)

  keeps : (k : ℕ) → before hs k < get_or hs k 0 → get_or hs k 0 ≤ year_days y → bad_entry y hs k ≡ false
  keeps k a b = simp (lt-leb (get_or hs k 0) (before hs k) a, le-ltb (year_days y) (get_or hs k 0) b)

  taken_legal : bad_holidays y hs ≡ false → LegalHolidays y hs
  unfolding bad_holidays
  taken_legal e =
      let b = neither (ltb holidays_most (length hs)) (any_over (bad_entry y hs) (length hs)) e in
      let each = all_passed (bad_entry y hs) (length hs) b.1 in
      record {
        few = ltb-false holidays_most (length hs) b.0;
        from = λ k l. let p = kept k (each.fails k l) in omega arith;
        to = λ k l. (kept k (each.fails k l)).1;
        rising = λ k l. rw add-one (kept (suc k) (each.fails (suc k) (omega arith))).0;
      }

  legal_taken : LegalHolidays y hs → bad_holidays y hs ≡ false
  unfolding bad_holidays
  legal_taken h =
      simp (le-ltb holidays_most (length hs) h.few, any_fails (bad_entry y hs) (length hs) (λ k l. keeps k (above k l) (h.to k l)))
    where
      above : (k : ℕ) → k < length hs → before hs k < get_or hs k 0
      above zero l = h.from 0 l
      above (suc k) l = rw add-one at (h.rising k (omega arith))

  -- a list is accepted exactly when it is legal
  pub legal_holidays : (bad_holidays y hs ≡ false) ↔ LegalHolidays y hs
  legal_holidays = (taken_legal, legal_taken)
