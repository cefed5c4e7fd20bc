-- The highest reading tells whether all are legal, as ≤ and < alone state it; and the search's end is the first that is
-- not.
-- Assumes nothing.
use mathlib.Core.Path.{sym, ◌∙◌}
use mathlib.Core.Bool.{Bool}
use mathlib.Core.Logic.{◌↔◌}
use mathlib.Core.List.{List}
use Prim.Native.Nat.{ℕ, ◌≤◌, ◌<◌}
use native.Mathlib.Nat.{le_trans}
use native.Mathlib.Omega.{arith}
use borrow.Author.Tests.{ltb-true, ltb-false}
use lib.ListN.{length, get_or}
use Rattle.ranges.proofs.Largest.{largest_above, largest_le}
use Rattle.ranges.proofs.First.{first_below, first_holds, any_first}
use Rattle.readings.specs.declared.Run.{Run}
use Rattle.readings.specs.Runs.{run_days, day_len, reading}
use Rattle.readings.specs.Legal.{illegal, highest_of, first_above, day_peak, peak_of, bad_in, bad_at, bad_day}
use Rattle.readings.specs.Illegal.{AllLegal, SomeIllegal, FirstIllegal, AllLegalIn, SomeIllegalIn, FirstIllegalIn}
use Rattle.readings.proofs.Legal.{above, highest_illegal, reading_le, bad_peak, peak_illegal}

-- a day's readings, given alone
module _ (limit : ℕ) (day : List ℕ) where
  pub first_illegal_law : limit < highest_of day → FirstIllegal limit day (first_above limit day)
  unfolding first_above
  first_illegal_law v =
      record {
        at_in = highest_illegal limit day v;
        above = ltb-true _ _ (first_holds (above limit day) (length day) (highest_illegal limit day v));
        before = λ p h. ltb-false _ _ (first_below (above limit day) (length day) p h);
      }

  pub all_legal : (highest_of day ≤ limit) ↔ AllLegal limit day
  unfolding highest_of
  all_legal = (λ h p l. le_trans (largest_above (λ i. get_or day i 0) (length day) p l) h, largest_le (λ i. get_or day i 0) (length day) limit)

  pub some_illegal : (limit < highest_of day) ↔ SomeIllegal limit day
  unfolding highest_of
  some_illegal = (
    λ v. let f = first_illegal_law v in record { at = first_above limit day; at_in = f.at_in; above = f.above },
    λ s. omega (arith, s.above, largest_above (λ i. get_or day i 0) (length day) s.at s.at_in),
  )

-- a run's series
module _ (run : Run) (limit : ℕ) (xs : List ℕ) where
  pub all_legal_in : (peak_of run xs (run_days run) ≤ limit) ↔ AllLegalIn run limit xs
  unfolding peak_of day_peak
  all_legal_in = (
    λ h d p l m. le_trans (reading_le run xs (run_days run) d p l m) h,
    λ low. largest_le (day_peak run xs) (run_days run) limit (λ d l. largest_le (reading run xs d) (day_len run d) limit (λ p m. low d p l m)),
  )

  module _ (v : limit < peak_of run xs (run_days run)) where
    abbrev day : ℕ
    day = bad_day run limit xs

    found : day < run_days run
    found = peak_illegal run limit xs v

    pub before_legal : (d : ℕ) → d < day → day_peak run xs d ≤ limit
    unfolding bad_day
    before_legal d h = ltb-false _ _ (sym (bad_peak run limit xs d) ∙ first_below (bad_in run limit xs) (run_days run) d h)

    pub there_bad : limit < day_peak run xs day
    unfolding bad_day
    there_bad = ltb-true _ _ (sym (bad_peak run limit xs day) ∙ first_holds (bad_in run limit xs) (run_days run) found)

    there_in : bad_at run limit xs day < day_len run day
    unfolding bad_day bad_in bad_at
    there_in =
        ltb-true _ _ (sym (any_first (λ p. illegal limit (reading run xs day p)) (day_len run day)) ∙ first_holds (bad_in run limit xs) (run_days run) found)

    pub first_illegal_in : FirstIllegalIn run limit xs day (bad_at run limit xs day)
    unfolding bad_at day_peak
    first_illegal_in =
        let at : ℕ → Bool = λ p. illegal limit (reading run xs day p) in
        record {
          on_in = found;
          at_in = there_in;
          above = ltb-true _ _ (first_holds at (day_len run day) there_in);
          days_before_law = λ e p h m. le_trans (largest_above (reading run xs e) (day_len run e) p m) (before_legal e h);
          before = λ p h. ltb-false _ _ (first_below at (day_len run day) p h);
        }

  pub some_illegal_in : (limit < peak_of run xs (run_days run)) ↔ SomeIllegalIn run limit xs
  some_illegal_in = (
    λ v.
        let f = first_illegal_in v in
        let on = bad_day run limit xs in
        record { on = on; at = bad_at run limit xs on; on_in = f.on_in; at_in = f.at_in; above = f.above },
    λ s. omega (arith, s.above, reading_le run xs (run_days run) s.on s.at s.on_in s.at_in),
  )
