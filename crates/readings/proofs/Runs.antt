-- Laws of a run's layout: all that other proofs know of it. What holds for any two Sundays is in Spans; here are the
-- run's own, which are two days of every run, so that a whole run has 96 readings for each of its days.
-- Assumes nothing.
use mathlib.Core.Path.{◌≡◌, refl, sym, ap}
use mathlib.Core.Bool.{true}
use Prim.Native.Nat.{ℕ, zero, suc, ◌+◌, ◌-◌, ◌*◌, ◌≤◌, ◌<◌}
use native.Mathlib.Nat.{add-zero, add-suc}
use native.Mathlib.Omega.{arith}
use borrow.Author.Tests.{lt-ltb}
use Rattle.ranges.specs.Limits.{Within, outside}
use Rattle.ranges.proofs.Bools.{clash, within}
use Rattle.answers.specs.Ruling.{day_quarters}
use Rattle.dates.specs.Dates.{year_days, most_days}
use Rattle.dates.proofs.Leaps.{leap_small}
use Rattle.dates.proofs.Sundays.{march_sunday_law, october_sunday_law}
use Rattle.periods.specs.Period.{period_days}
use Rattle.periods.proofs.Periods.{period_most, period_days_law}
use Rattle.periods.proofs.Sundays.{march_in, october_in}
use Rattle.readings.specs.declared.Run.{Run}
use Rattle.readings.specs.declared.Run.TheVariants.{Year, Period}
use Rattle.readings.specs.declared.Change.{Change}
use Rattle.readings.specs.declared.DaySpan.{DaySpan}
use Rattle.readings.specs.Runs.{run_days, change_of, len_by, start_by, span_by, day_len, day_start, quarter_of, run_readings}
use Rattle.readings.specs.Near.{latest_of, four_before}
use Rattle.readings.proofs.Quarters.{quarter_plain, quarter_fits}
use Rattle.readings.proofs.Spans.{len_usual, lens_least, lens_most, lens_over, starts_none, starts_suc, starts_more, starts_most, starts_below, start_apart}

-- the days of a charge year, and of a reference period
pub year_run : (y : ℕ) → run_days (Year y) ≡ year_days y
unfolding run_days
year_run y = refl

pub period_run : (y : ℕ) → run_days (Period y) ≡ period_days y
unfolding run_days
period_run y = refl

-- no run has more days than the longest year
pub days_most : (run : Run) → run_days run ≤ most_days
unfolding run_days
days_most (Year y) = omega (arith, leap_small y)
days_most (Period y) = omega (arith, period_most y)

-- where a run's two Sundays lie, in every year: in the seven or eight days up to the latest
pub record Lie (run : Run) : Type 0 where
  pub short_in : Within ((latest_of run).short - 7) (latest_of run).short (change_of run).short
  pub long_in : Within ((latest_of run).long - 7) (latest_of run).long (change_of run).long

pub lie : (run : Run) → Lie run
unfolding change_of
lie (Year y) =
    let s = march_sunday_law y in
    let l = october_sunday_law y in
    let few = leap_small y in
    record {
      short_in = record { from = omega (arith, s.from); to = omega (arith, s.to) };
      long_in = record { from = omega (arith, l.from); to = omega (arith, l.to) };
    }
lie (Period y) =
    let s = march_in y in
    let l = october_in y in
    let few = leap_small (y - 1) in
    record {
      short_in = record { from = omega (arith, s.from); to = omega (arith, s.to) };
      long_in = record { from = omega (arith, l.from); to = omega (arith, l.to) };
    }

-- they are two days of it
pub apart : (run : Run) → (change_of run).long ≡ (change_of run).short → ⊥
apart (Year y) e = let h = lie (Year y) in omega (arith, e, h.short_in.to, h.long_in.from)
apart (Period y) e = let h = lie (Period y) in omega (arith, e, h.long_in.to, h.short_in.from)

pub changed_in : (run : Run) → ((change_of run).short < run_days run) × ((change_of run).long < run_days run)
changed_in (Year y) =
    let h = lie (Year y) in
    (omega (arith, h.short_in.to, year_run y), omega (arith, h.long_in.to, year_run y))
changed_in (Period y) =
    let h = lie (Period y) in
    let n = period_days_law y (y - 1) (year_days (y - 1)) refl refl in
    (omega (arith, h.short_in.to, period_run y, n), omega (arith, h.long_in.to, period_run y, n))

-- a span that is a day's, by its parts
module _ (c : Change) (d : ℕ) {span : DaySpan} (e : span ≡ span_by c d) where
  pub span_start : span.start ≡ start_by c d
  span_start = ap (λ (s : DaySpan). s.start) e

  pub span_len : span.len ≡ len_by c d
  span_len = ap (λ (s : DaySpan). s.len) e

-- a day has from 92 to 100 readings
module _ (run : Run) where
  pub len_least : (d : ℕ) → 92 ≤ day_len run d
  len_least = lens_least (change_of run)

  pub len_some : (d : ℕ) → 1 ≤ day_len run d
  len_some d = omega (arith, len_least d)

  pub len_most : (d : ℕ) → day_len run d ≤ 100
  len_most = lens_most (change_of run)

  -- and a position of it stands for one of 96 quarters
  pub quarter_in_law : (d p : ℕ) → p < day_len run d → quarter_of run d p < day_quarters
  quarter_in_law d p l = quarter_fits (day_len run d) p (lens_over (change_of run) d refl) l

  pub start_none : day_start run 0 ≡ 0
  start_none = starts_none (change_of run)

  pub start_suc : (d : ℕ) → day_start run (suc d) ≡ day_start run d + day_len run d
  start_suc = starts_suc (change_of run)

  pub start_more : (d : ℕ) → day_start run (d + 1) ≡ day_start run d + day_len run d
  start_more = starts_more (change_of run)

  pub start_most : (d : ℕ) → day_start run d ≤ 100 * d
  start_most = starts_most (change_of run)

  -- a day of the first n stands within their readings
  pub start_below : (n d : ℕ) → d < n → day_start run d + day_len run d ≤ day_start run n
  start_below = starts_below (change_of run)

  -- a day that comes before or behind both Sundays, whenever these are, has 96 readings
  pub usual_len :
      (d : ℕ)
      → outside ((latest_of run).short - 7) (latest_of run).short d ≡ true
      → outside ((latest_of run).long - 7) (latest_of run).long d ≡ true
      → day_len run d ≡ day_quarters
  usual_len d a b =
      let h = lie run in
      len_usual (change_of run) d
      (λ e. clash a ((within _ _ d).1 (rw (sym e) at h.short_in))) (λ e. clash b ((within _ _ d).1 (rw (sym e) at h.long_in)))

  -- on such a day position p stands for quarter p
  pub usual_quarter : (d p : ℕ) → day_len run d ≡ day_quarters → quarter_of run d p ≡ p
  usual_quarter d p e = quarter_plain (day_len run d) p (λ a. omega (arith, e, a)) (λ a. omega (arith, e, a))

  -- k days of 96 readings, one after the other
  pub usual_on : (d k : ℕ) → ((j : ℕ) → j < k → day_len run (d + j) ≡ day_quarters) → day_start run (d + k) ≡ day_start run d + day_quarters * k
  usual_on d zero usual = rw add-zero (omega arith)
  usual_on d (suc k) usual =
      rw add-suc (omega (arith, start_suc (d + k), usual_on d k (λ j l. usual j (omega arith)), usual k (omega arith)))

  -- all days of a run have its readings
  pub run_all : day_start run (run_days run) ≡ run_readings run
  unfolding run_readings
  run_all = refl

  -- what the short Sunday lacks the long one has more: every run, of any year, has 96 readings for each of its days
  pub keeps_length : run_readings run ≡ day_quarters * run_days run
  unfolding run_readings
  keeps_length =
      let c = change_of run in
      let days = run_days run in
      let before = changed_in run in
      let less : four_before c.short days ≡ 4 = simp (lt-ltb c.short days before.0) in
      let more : four_before c.long days ≡ 4 = simp (lt-ltb c.long days before.1) in
      omega (arith, start_apart c (apart run) days, less, more)

  -- the readings of each day of a run stand within the run's
  pub run_held : (d : ℕ) → d < run_days run → day_start run d + day_len run d ≤ run_readings run
  unfolding run_readings
  run_held d l = start_below (run_days run) d l
