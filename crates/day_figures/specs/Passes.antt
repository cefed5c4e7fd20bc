-- How the code works inside: a day in short passes over its readings, by masks of the quarters that count. Nothing of
-- this is promised to a caller. Days d, positions p and quarters q count from 0.
use Rattle.std.specs.Prelude.{◌≡◌, Bool, false, cond, ◌||◌, List, ℕ, ◌+◌, ◌≤◌, ◌<◌, max, ltb, length, get_or}
use Rattle.std.specs.Int.Bits.{bit_and}
use Rattle.ranges.specs.Ranges.{largest_over, sum_over, any_over, number_if, table}
use Rattle.answers.specs.Ruling.{day_quarters}
use Rattle.readings.specs.Legal.{highest_of}
use Rattle.readings.specs.Runs.{most_readings, quarter_in}
use Rattle.tariff.specs.declared.Figures.{Figures}
use Rattle.day_figures.specs.declared.Tops.{Tops}
use Rattle.day_figures.specs.Day.{alone, with_day, day_most, sum_end}

-- four readings below this, 2^30, have a sum that fits 32 bits
abbrev pub four_end : ℕ
four_end = 1073741824

-- a day's sum, and that it is at most what a day can add
pub record DaySum (day : List ℕ) (sum : ℕ) : Type 0 where
  pub is : sum ≡ sum_over (alone day) (length day)
  pub most : sum ≤ day_most

-- the highest reading of a day, and its sum
unfoldable pub tops_of : List ℕ → Tops
tops_of day = record { peak = highest_of day; sum = sum_over (alone day) (length day) }

-- a row as 96 masks of 32 bits, all ones where a quarter is set and 0 elsewhere; and whether some mask is not 0
abbrev pub all_ones : ℕ
all_ones = 4294967295

unfoldable pub masks_of : List Bool → List ℕ
masks_of row = table (λ q. number_if (get_or row q false) all_ones) day_quarters

unfoldable pub some_left : List ℕ → Bool
some_left masks = any_over (λ q. ltb 0 (get_or masks q 0)) day_quarters

-- the highest of what the masks leave of a day's readings
unfoldable pub masked_high : List ℕ → List ℕ → ℕ
masked_high masks day = largest_over (λ p. bit_and (alone day p) (get_or masks (quarter_in (length day) p) 0)) (length day)

-- a day has at most 100 readings
abbrev pub FewReadings : List ℕ → Type 0
FewReadings day = length day ≤ most_readings

-- the sum has room for a day more, and a day's number for the next one
abbrev pub SumFits : Figures → Type 0
SumFits f = f.sum + day_most < sum_end

abbrev pub Numbered : ℕ → Type 0
Numbered d = d < 65535

-- a day has no more readings than quarters, unless it is the long Sunday: so each stands for one of 96 quarters
abbrev pub Sized : List ℕ → Type 0
Sized day = day_quarters < length day → length day ≡ most_readings

-- the figures with a day's highest reading and sum taken in, H as it was
abbrev pub plainly : Figures → Tops → Figures
plainly f t =
    record {
      peak = max f.peak t.peak;
      sum = f.sum + t.sum;
      any = f.any;
      high = f.high;
      day = f.day;
      quarter = f.quarter;
    }

-- the figures with H at position `at` of day d, or as they were where the day has no such position
abbrev pub high_at : Figures → ℕ → List ℕ → ℕ → Figures
high_at f d day at =
    let here = ltb at (length day) in
    record {
      peak = f.peak;
      sum = f.sum;
      any = f.any || here;
      high = cond here (alone day at) f.high;
      day = cond here (d + 1) f.day;
      quarter = cond here (quarter_in (length day) at) f.quarter;
    }

-- position `at` of a day is where H comes to stand, whichever day it is, or the day has no such position, and H stays
pub record HighAt (f : Figures) (row : List Bool) (day : List ℕ) (at : ℕ) : Type 0 where
  pub is : (d : ℕ) → high_at (plainly f (tops_of day)) d day at ≡ with_day f (length day) d row (alone day)

-- a usual day that can be taken in: its number counts on within 16 bits, it has 96 readings, and `next` are the figures
-- with its highest reading and sum
pub record Fits (f : Figures) (d : ℕ) (day : List ℕ) (next : Figures) : Type 0 where
  pub on : Numbered d
  pub usual : length day ≡ day_quarters
  pub next_is : next ≡ plainly f (tops_of day)
