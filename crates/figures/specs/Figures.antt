-- The figures of a customer's year: M, the annual peak; S, the sum of its readings; H, the in-window peak, and the day
-- and quarter in which it is first reached. `in_window d p` says whether position p of day d is in-window; days d and
-- positions p count from 0, and which quarter a position stands for says room `readings` (`quarter_of`,
-- `quarter_in`). A year goes by days, a day by positions. Rules 6.3 to 6.5.
use Rattle.std.specs.Prelude.{◌≡◌, Bool, true, false, cond, not, ◌&&◌, ◌||◌, List, ℕ, ◌+◌, ◌≤◌, ◌<◌, max, ltb}
use Rattle.ranges.specs.Ranges.{largest_over, sum_over, any_over, largest_in, place_in}
use Rattle.readings.specs.declared.Run.{Run}
use Rattle.readings.specs.Runs.{day_len, quarter_in, quarter_of, reading}
use Rattle.readings.specs.Legal.{peak_of}
use Rattle.tariff.specs.declared.Figures.{Figures}

-- one day's part of the figures: its highest reading, its sum, whether it has an in-window quarter, and the day's
-- in-window peak with the quarter, from 0, where it is first reached. It goes by the day's own n readings f, and by
-- which of their positions are in-window.
pub record DayRecord : Type 0 where
  pub peak : ℕ
  pub sum : ℕ
  pub any : Bool
  pub high : ℕ
  pub quarter : ℕ

-- the record of the first p of them, and of all
abbrev pub record_to : ℕ → ℕ → (ℕ → Bool) → (ℕ → ℕ) → DayRecord
record_to n p in_window f =
    record {
      peak = largest_over f p;
      sum = sum_over f p;
      any = any_over in_window p;
      high = largest_in in_window f p;
      quarter = quarter_in n (place_in in_window f p);
    }

abbrev pub record_of : ℕ → (ℕ → Bool) → (ℕ → ℕ) → DayRecord
record_of n in_window f = record_to n n in_window f

-- S, over the first n days (Rule 6.4)
unfoldable pub sum_of : Run → List ℕ → ℕ → ℕ
sum_of run xs n = sum_over (λ d. sum_over (reading run xs d) (day_len run d)) n

module _ (run : Run) (in_window : ℕ → ℕ → Bool) where
  -- does day d, from 0, have an in-window quarter?
  unfoldable pub any_on : ℕ → Bool
  any_on d = any_over (in_window d) (day_len run d)

  -- the highest in-window reading of day d, whose reading at position p is f p, and the quarter, from 0, where it is
  -- first reached
  unfoldable pub high_on : ℕ → (ℕ → ℕ) → ℕ
  high_on d f = (record_of (day_len run d) (in_window d) f).high

  unfoldable pub quarter_on : ℕ → (ℕ → ℕ) → ℕ
  quarter_on d f = (record_of (day_len run d) (in_window d) f).quarter

  -- over the first n days of a series: H, and the first day, from 0, that reaches it; n where no quarter is in-window
  unfoldable pub high_in : List ℕ → ℕ → ℕ
  high_in xs n = largest_in any_on (λ d. high_on d (reading run xs d)) n

  unfoldable pub high_day : List ℕ → ℕ → ℕ
  high_day xs n = place_in any_on (λ d. high_on d (reading run xs d)) n

  -- the figures of the first n days: M, S, and H with its place, the day from 1 and the quarter from 0. Where no
  -- quarter is in-window, H, day and quarter are 0.
  unfoldable pub figures_of : List ℕ → ℕ → Figures
  figures_of xs n =
      record {
        peak = peak_of run xs n;
        sum = sum_of run xs n;
        any = any_over any_on n;
        high = high_in xs n;
        day = cond (any_over any_on n) (high_day xs n + 1) 0;
        quarter = cond (any_over any_on n) (quarter_on (high_day xs n) (reading run xs (high_day xs n))) 0;
      }

-- the figures of no day
abbrev pub no_figures : Figures
no_figures = record { peak = 0; sum = 0; any = false; high = 0; day = 0; quarter = 0 }

-- a day's in-window peak becomes H where no day before has an in-window quarter, or where it is higher than all before:
-- on a tie the earlier day keeps the place (Rule 6.5)
abbrev pub better : Figures → DayRecord → Bool
better f r = r.any && (not f.any || ltb f.high r.high)

-- the figures of the days before, f, with the record of the next day, day d from 1, taken in
unfoldable pub taken_in : Figures → ℕ → DayRecord → Figures
taken_in f d r =
    record {
      peak = max f.peak r.peak;
      sum = f.sum + r.sum;
      any = f.any || r.any;
      high = cond (better f r) r.high f.high;
      day = cond (better f r) d f.day;
      quarter = cond (better f r) r.quarter f.quarter;
    }

-- what H's place is, in plain inequalities: position `at` of day `on`, both from 0, is in-window and has H, no
-- in-window reading is above H, and every earlier one is below it
pub record FirstPlace (run : Run) (in_window : ℕ → ℕ → Bool) (xs : List ℕ) (n : ℕ) (f : Figures) : Type 0 where
  pub on : ℕ
  pub at : ℕ
  pub on_in : on < n
  pub at_in : at < day_len run on
  pub counts_there : in_window on at ≡ true
  pub has : reading run xs on at ≡ f.high
  pub day_is : f.day ≡ on + 1
  pub quarter_is : f.quarter ≡ quarter_of run on at
  pub above : (d p : ℕ) → d < n → p < day_len run d → in_window d p ≡ true → reading run xs d p ≤ f.high
  pub days_before_law : (d p : ℕ) → d < on → p < day_len run d → in_window d p ≡ true → reading run xs d p < f.high
  pub before : (p : ℕ) → p < at → in_window on p ≡ true → reading run xs on p < f.high
