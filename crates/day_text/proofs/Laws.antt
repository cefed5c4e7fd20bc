-- Laws of what the day program is asked and prints: one for each case of the tests, with the code's answer on the left.
-- Assumes nothing.
use mathlib.Core.Path.{◌≡◌, refl, sym, ◌∙◌}
use mathlib.Core.Bool.{Bool, true, false, not, ◌||◌}
use mathlib.Core.List.{List}
use Prim.Native.Nat.{ℕ, ◌*◌, ◌≤◌, ◌<◌, ◌%◌}
use native.Mathlib.Omega.{arith}
use borrow.Author.Tests.{eq-eqb, ne_eqb, eqb-true, eqb-false}
use lib.Dec.{eqb}
use lib.ListN.{length, get_or}
use Rattle.std.specs.Bool.{MatchBool}
use Rattle.std.specs.List.{range_with_len, HoldsAt, AllWithin}
use Rattle.std.proofs.Common.{subst}
use Rattle.std.proofs.lemmas.List.FromFn.{length-range_with_len, get_or-range_with_len}
use Rattle.ranges.specs.Ranges.{any_over}
use Rattle.ranges.proofs.Bools.{neither}
use Rattle.ranges.proofs.Tests.{any_at, any_fails, Passed}
use Rattle.editions.specs.Editions.{todays, edition_of, year_out}
use Rattle.answers.specs.Said.{only}
use Rattle.day_kinds.specs.declared.DayKind.{DayKind}
use Rattle.day_kinds.specs.Kinds.{kind_code}
use Rattle.calendar.specs.Answer.{of_kind, calendar_answer}
use Rattle.day_text.specs.Asked.{line_size, misfits_at, no_dates, year_at, day_at, line_count, missing_on, no_such_date, listed_days, why_answer}
use Rattle.day_text.specs.Text.{weekday_name, day_line, wrong_line, usage_line, why_text}

-- a test whose contrary fails
held : (x : Bool) → not x ≡ false → x ≡ true
held true e = refl
held false e = sym e

module _ (b : List ℕ) where
  -- no dates at all, test after test
  pub none : length b ≡ 0 → true ≡ no_dates b
  unfolding no_dates
  none e = simp (eq-eqb _ _ e)

  module _ (some : length b ≡ 0 → ⊥) where
    pub cut : (length b % line_size ≡ 0 → ⊥) → true ≡ no_dates b
    unfolding no_dates
    cut n = simp (ne_eqb _ _ some, ne_eqb _ _ n)

    module _ (whole : length b % line_size ≡ 0) where
      form_tested : any_over (misfits_at b) (length b) ≡ no_dates b
      unfolding no_dates
      form_tested = simp (ne_eqb _ _ some, eq-eqb _ _ whole)

      pub misfit_found : (i : ℕ) → i < length b → misfits_at b i ≡ true → true ≡ no_dates b
      misfit_found i l e = sym (any_at (misfits_at b) (length b) i l e) ∙ form_tested

      pub all_fit : {i : ℕ} → Passed (misfits_at b) i → length b ≤ i → false ≡ no_dates b
      all_fit h m = sym (any_fails (misfits_at b) (length b) (λ k l. h.fails k (omega arith))) ∙ form_tested

  -- a date that its year does not have, line after line
  pub missing_found : (k : ℕ) → k < line_count b → day_at b (line_size * k) ≡ 0 → true ≡ no_such_date b
  unfolding no_such_date
  missing_found k l e = sym (any_at (missing_on b) (line_count b) k l (eq-eqb _ _ e))

  pub none_missing : {k : ℕ} → Passed (missing_on b) k → line_count b ≤ k → false ≡ no_such_date b
  unfolding no_such_date
  none_missing h m = sym (any_fails (missing_on b) (line_count b) (λ i l. h.fails i (omega arith)))

  -- the same by a search in the lines' numbers
  abbrev lines : List ℕ
  lines = range_with_len 0 (line_count b)

  line_at : (k d : ℕ) → k < line_count b → get_or lines k d ≡ k
  line_at k d l = get_or-range_with_len 0 (line_count b) k d l ∙ omega arith

  pub dates_searched :
      (r : Bool)
      → MatchBool r ((k : ℕ) × (k < length lines) × HoldsAt (λ k. day_at b (line_size * k) ≡ 0) lines k)
      (AllWithin (λ k. day_at b (line_size * k) ≡ 0 → ⊥) lines 0 (length lines))
      → r ≡ no_such_date b
  dates_searched true h =
      let l : h.0 < line_count b = omega (arith, h.1, length-range_with_len 0 (line_count b)) in
      let P : ℕ → Type 0 = λ k. day_at b (line_size * k) ≡ 0 in
      missing_found h.0 l (subst P (line_at h.0 0 l) (h.2 0))
  dates_searched false h =
      let P : ℕ → Type 0 = λ k. day_at b (line_size * k) ≡ 0 → ⊥ in
      none_missing {k = line_count b}
      (record { fails = λ k l. ne_eqb _ _ (subst P (line_at k 0 l) (h k 0 (omega arith) (omega (arith, length-range_with_len 0 (line_count b))))) })
      (omega arith)

  -- where the dates are dates, the first line is whole
  pub line_long : no_dates b ≡ false → 10 ≤ length b
  unfolding no_dates
  line_long f =
      let misfit = any_over (misfits_at b) (length b) in
      let cut_off = not (eqb (length b % line_size) 0) in
      let some = neither (eqb (length b) 0) (cut_off || misfit) f in
      let whole = (neither cut_off misfit some.1).0 in
      omega (arith, eqb-false (length b) 0 some.0, eqb-true (length b % line_size) 0 (held (eqb (length b % line_size) 0) whole))

  -- what is answered, test after test
  pub year_told : year_out todays (year_at b 0) ≡ true → only 1 ≡ why_answer b
  unfolding why_answer
  year_told e = rw e

  module _ (a : year_out todays (year_at b 0) ≡ false) where
    pub date_told : no_such_date b ≡ true → only 13 ≡ why_answer b
    unfolding why_answer
    date_told e = rw (a, e)

    pub calendar_told : no_such_date b ≡ false → calendar_answer (edition_of todays (year_at b 0)) (year_at b 0) (listed_days b) (day_at b 0) ≡ why_answer b
    unfolding why_answer
    calendar_told e = rw (a, e)

  -- what is printed
  pub usage_printed : no_dates b ≡ true → usage_line ≡ why_text b
  unfolding why_text
  usage_printed e = rw e

  module _ (f : no_dates b ≡ false) where
    pub day_printed : (kind : DayKind) → of_kind kind ≡ why_answer b → day_line b (kind_code kind) ≡ why_text b
    unfolding why_text
    day_printed kind e = rw (f, ← e)

    pub wrong_printed : (number : ℕ) → (number ≡ 0 → ⊥) → only number ≡ why_answer b → wrong_line number ≡ why_text b
    unfolding why_text
    wrong_printed number some e = rw (f, ← e, ne_eqb number 0 some)

-- Sunday is the last weekday
pub sunday : (w : ℕ) → 5 < w → weekday_name 6 ≡ weekday_name w
unfolding weekday_name
sunday w h =
    simp (
      ne_eqb w 0 (λ e. omega (arith, h, e)),
      ne_eqb w 1 (λ e. omega (arith, h, e)),
      ne_eqb w 2 (λ e. omega (arith, h, e)),
      ne_eqb w 3 (λ e. omega (arith, h, e)),
      ne_eqb w 4 (λ e. omega (arith, h, e)),
      ne_eqb w 5 (λ e. omega (arith, h, e)),
    )
