-- H and its place are what Rule 6.5 says: the highest in-window reading, and the first day and quarter that have it.
-- Assumes nothing.
use mathlib.Core.Path.{◌≡◌, ◌∙◌}
use mathlib.Core.Bool.{Bool, true, false}
use mathlib.Core.List.{List}
use Prim.Native.Nat.{ℕ, ◌≤◌, ◌<◌}
use native.Mathlib.Nat.{le_trans}
use native.Mathlib.Omega.{arith}
use Rattle.ranges.specs.Ranges.{place_in}
use Rattle.ranges.proofs.Tests.{all_passed, any_at}
use Rattle.ranges.proofs.Inside.{in_above, place_in_law, place_passes, place_has, place_first}
use Rattle.readings.specs.declared.Run.{Run}
use Rattle.readings.specs.Runs.{day_len, reading}
use Rattle.figures.specs.Figures.{any_on, high_on, quarter_on, high_in, high_day, figures_of, FirstPlace}

module _ (run : Run) (in_window : ℕ → ℕ → Bool) (xs : List ℕ) (n : ℕ) where
  abbrev any : ℕ → Bool
  any = any_on run in_window

  abbrev high : ℕ → ℕ
  high d = high_on run in_window d (reading run xs d)

  -- a day's in-window reading is at most its highest
  on_above : (d p : ℕ) → p < day_len run d → in_window d p ≡ true → reading run xs d p ≤ high d
  unfolding high_on
  on_above d p l t = in_above (in_window d) (reading run xs d) (day_len run d) p l t

  on_any : (d p : ℕ) → p < day_len run d → in_window d p ≡ true → any d ≡ true
  unfolding any_on
  on_any d p l t = any_at (in_window d) (day_len run d) p l t

  pub first_place : (figures_of run in_window xs n).any ≡ true → FirstPlace run in_window xs n (figures_of run in_window xs n)
  unfolding figures_of high_in high_day high_on quarter_on any_on
  first_place s =
      let on = high_day run in_window xs n in
      let there = place_passes any high n s in
      let top = place_has any high n s in
      let at_has = place_has (in_window on) (reading run xs on) (day_len run on) there in
      record {
        on = on;
        at = place_in (in_window on) (reading run xs on) (day_len run on);
        on_in = place_in_law any high n s;
        at_in = place_in_law (in_window on) (reading run xs on) (day_len run on) there;
        counts_there = place_passes (in_window on) (reading run xs on) (day_len run on) there;
        has = at_has ∙ top;
        day_is = rw s;
        quarter_is = rw s;
        above = λ d p h l t. le_trans (on_above d p l t) (in_above any high n d h (on_any d p l t));
        days_before_law = λ d p h l t. omega (arith, on_above d p l t, place_first any high n d h (on_any d p l t));
        before = λ p h t. omega (arith, top, place_first (in_window on) (reading run xs on) (day_len run on) p h t);
      }

  -- and where none is in a window, no quarter is
  pub nowhere_in : (figures_of run in_window xs n).any ≡ false → (d p : ℕ) → d < n → p < day_len run d → in_window d p ≡ false
  unfolding figures_of any_on
  nowhere_in s d p h l = (all_passed (in_window d) (day_len run d) ((all_passed any n s).fails d h)).fails p l
