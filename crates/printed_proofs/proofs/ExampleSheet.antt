-- Case 12 (Rule 11.1) from the series: the grid's series of the example of Rule 10.6 has the curves of case 12, so its
-- sheet is the one of case 12, in every buffer with room for it.
-- Assumes nothing.
use mathlib.Core.Path.{◌≡◌, refl, sym, ap, ◌∙◌}
use mathlib.Core.Bool.{Bool, true, false, cond}
use mathlib.Core.List.{List, [], ◌∷◌, ◌++◌}
use Prim.Native.Nat.{ℕ, ◌+◌, ◌/◌, ◌%◌, ◌≤◌, ◌<◌}
use native.Mathlib.Decide.{ℕ_discrete}
use native.Mathlib.Omega.{arith}
use borrow.Author.Tests.{ne_eqb, eqb-true, ltb-true}
use lib.Dec.{eqb, ltb}
use lib.ListN.{length, get_or, drop}
use Rattle.ranges.specs.Ranges.{joined, sum_over, count_over, all_over, largest_over, table}
use Rattle.ranges.proofs.Tests.{all_at}
use Rattle.ranges.proofs.Tables.{table_cong}
use Rattle.ranges.specs.Limits.{outside}
use Rattle.answers.specs.Edition.{today}
use Rattle.answers.specs.Ruling.{day_quarters, grid_most, lacks_year, level_out}
use Rattle.answers.specs.Said.{only}
use Rattle.dates.specs.Dates.{leap, leap_day, days_to, month_of, season_of}
use Rattle.periods.specs.Period.{period_days, period_date, period_season}
use Rattle.readings.specs.Runs.{run_days, day_len, quarter_of, run_readings, reading}
use Rattle.readings.specs.Legal.{highest_of}
use Rattle.readings.specs.Days.{series_answer}
use Rattle.readings.proofs.Runs.{usual_len, usual_quarter, run_all, period_run}
use Rattle.readings.proofs.Days.{series_legal}
use Rattle.sheet.specs.declared.Sheet.{Sheet}
use Rattle.sheet.specs.Windows.{window_places}
use Rattle.sheet.specs.Bytes.{sheet_size}
use Rattle.sheet.specs.Answers.{write_answer}
use Rattle.sheet.proofs.Windows.{roomy}
use Rattle.sheet.proofs.Answered.{write_accepted, write_taken}
use Rattle.windows.proofs.Kept.{chosen_roomy}
use Rattle.grid_curves.specs.Curves.{curve_at, flat_curves}
use Rattle.grid.specs.Answers.{curves_of, sheet_of, windows_answer, windows_buffer}
use Rattle.grid.proofs.Answered.{open_done}
use Rattle.grid.proofs.Answered.{finish_sheet, whole_finish}
use Rattle.demands.specs.Cases.{example_curves, example_sheet}
use Rattle.demands.proofs.Cases.{example_bytes}
use Rattle.demands.proofs.WrongWindows.{days_2025}
use Rattle.printed_proofs.specs.Examples.{is_at, grid_run, other_day, grid_reading, grid_series, ExampleLaid}
use Rattle.printed_proofs.proofs.Series.{at_there, at_other, series_long, series_reads}
use Rattle.grid_curves.proofs.OneReading.{OneOther, other_peak, curve_there, curve_else}

-- the period has 366 days, and 15 January 2024 is the 137th, from 1
day_is : other_day ≡ 137
unfolding other_day days_to leap_day leap sum_over joined
day_is = refl

days : run_days grid_run ≡ 366
days = period_run 2025 ∙ days_2025

-- the series is 1,000 everywhere but there
reads : (d p : ℕ) → d < run_days grid_run → p < day_len grid_run d → reading grid_run grid_series d p ≡ grid_reading d p
unfolding grid_series
reads d p l m = series_reads grid_run grid_reading (run_days grid_run) d p l m

pub grid_long : length grid_series ≡ run_readings grid_run
unfolding grid_series
grid_long = series_long grid_run grid_reading (run_days grid_run) ∙ run_all grid_run

-- a day that is no Sunday of a clock change: position p stands for quarter p
usual : day_len grid_run 136 ≡ day_quarters
usual = usual_len grid_run 136 refl refl

order : (p : ℕ) → quarter_of grid_run 136 p ≡ p
order p = usual_quarter grid_run 136 p usual

-- quarter 72 of that day
there : is_at grid_run other_day 72 136 72 ≡ true
there = at_there grid_run other_day 72 136 72 (sym day_is) (order 72)

elsewhere : (d p : ℕ) → (d ≡ 136 → p ≡ 72 → ⊥) → is_at grid_run other_day 72 d p ≡ false
elsewhere d p other =
    at_other grid_run other_day 72 d p (λ a b.
    let e : d ≡ 136 = omega (arith, day_is) in
    other e (sym (order p) ∙ ap (λ (k : ℕ). quarter_of grid_run k p) (sym e) ∙ b))

one_other : OneOther grid_run grid_series (run_days grid_run) 1000 2000 136 72
one_other =
    record {
      on_in = omega (arith, days);
      at_in = omega (arith, usual);
      low = omega arith;
      there = reads 136 72 (omega (arith, days)) (omega (arith, usual)) ∙ ap (λ (b : Bool). cond b 2000 1000) there;
      elsewhere = λ d p l m other. reads d p l m ∙ ap (λ (b : Bool). cond b 2000 1000) (elsewhere d p other);
    }

pub grid_legal : only 0 ≡ series_answer grid_run grid_most grid_series
grid_legal = series_legal grid_run grid_most grid_series grid_long (omega (arith, other_peak one_other))

-- every season has a day: 15 January, 1 March, 31 August and 1 September
abbrev season_days : List ℕ
season_days = 136 ∷ 182 ∷ 365 ∷ 0 ∷ []

seasons_are : (k : ℕ) → k < 4 → period_season 2025 (get_or season_days k 0 + 1) ≡ k + 1
unfolding period_season period_date season_of month_of days_to leap_day leap count_over sum_over all_over joined
seasons_are k l = eqb-true _ _ (all_at (λ i. eqb (period_season 2025 (get_or season_days i 0 + 1)) (i + 1)) 4 refl k l)

days_in : (k : ℕ) → k < 4 → get_or season_days k 0 < 366
unfolding all_over joined
days_in k l = ltb-true _ _ (all_at (λ i. ltb (get_or season_days i 0) 366) 4 refl k l)

days_usual : (k : ℕ) → k < 4 → day_len grid_run (get_or season_days k 0) ≡ day_quarters
unfolding all_over joined
days_usual k l =
    usual_len grid_run (get_or season_days k 0)
    (all_at (λ i. outside 205 212 (get_or season_days i 0)) 4 refl k l) (all_at (λ i. outside 53 60 (get_or season_days i 0)) 4 refl k l)

-- so its curves are those of case 12
abbrev curve : ℕ → ℕ
curve i = curve_at 2025 grid_series (run_days grid_run) (i / day_quarters + 1) (i % day_quarters)

curve_is : (i : ℕ) → i < window_places → cond (eqb i 72) 2000 1000 ≡ curve i
curve_is i l = go (ℕ_discrete i 72)
  where
    k : ℕ
    k = i / day_quarters

    p : ℕ
    p = i % day_quarters

    go : Dec (i ≡ 72) → cond (eqb i 72) 2000 1000 ≡ curve i
    go (yes e) =
        rw e (sym (rw (seasons_are 0 (omega arith), order 72) at (curve_there 2025 one_other)))
    go (no e) =
        rw (ne_eqb i 72 e)
        (sym (curve_else 2025 one_other (k + 1) p (get_or season_days k 0) p
        (omega (arith, days, days_in k (omega arith)))
        (omega (arith, days_usual k (omega arith)))
        (seasons_are k (omega arith))
        (usual_quarter grid_run (get_or season_days k 0) p (days_usual k (omega arith)))
        (λ a b. e (omega (arith, a, b, seasons_are 0 (omega arith), order 72)))))

curves_table : example_curves ≡ table (λ i. cond (eqb i 72) 2000 1000) window_places
unfolding table joined
curves_table = refl

curves_are : example_curves ≡ flat_curves 2025 grid_series (period_days 2025)
unfolding flat_curves
curves_are = rw (← period_run 2025) (curves_table ∙ table_cong _ curve window_places curve_is)

-- and its sheet is that of case 12
abbrev sheet : Sheet
sheet = sheet_of today 2025 5 example_curves

peak_is : highest_of example_curves ≡ 2000
unfolding joined largest_over highest_of
peak_is = refl

years_in : lacks_year today 2025 ≡ false
unfolding lacks_year
years_in = refl

level_in : level_out 5 ≡ false
unfolding level_out
level_in = refl

module _ (buffer : List ℕ) (room : sheet_size ≤ length buffer) where
  abbrev next : List ℕ
  next = example_sheet ++ drop sheet_size buffer

  writes : only 0 ≡ write_answer today sheet (length buffer)
  unfolding sheet_of
  writes =
      write_accepted today sheet (length buffer) room years_in level_in
      ((roomy today _).1 (chosen_roomy today (highest_of example_curves) (curves_of example_curves)))

  lays : (only 0 ≡ windows_answer today 2025 5 grid_series (length buffer)) × (next ≡ windows_buffer today 2025 5 grid_series buffer)
  lays =
      let w = write_taken today sheet buffer next writes (ap (λ (b : List ℕ). b ++ drop sheet_size buffer) (sym example_bytes)) in
      whole_finish today 2025 5 grid_series buffer room (open_done today 2025 5 years_in level_in) grid_legal curves_are
      (finish_sheet today 2025 5 example_curves buffer (λ z. omega (arith, peak_is)) w.0 w.1)

  pub sheet_laid : ExampleLaid buffer
  sheet_laid = record { accepted = sym lays.0; laid = sym lays.1 }
