-- Windows of two series of 2025, at every level: what a module that meets the demands answers to them, and that it
-- neither leaves the buffer nor lays one fixed sheet.
-- Assumes nothing.
use mathlib.Core.Path.{◌≡◌, refl, sym, ap, ◌∙◌}
use mathlib.Core.Logic.{◌↔◌}
use mathlib.Core.Bool.{Bool, true, false, ◌&&◌, and-false}
use mathlib.Core.List.{List}
use Prim.Native.Nat.{ℕ, ◌*◌, ◌≤◌, ◌<◌}
use native.Mathlib.Decide.{dec_lt, ℕ_discrete}
use native.Mathlib.Omega.{arith}
use borrow.Author.Tests.{lt-ltb, le-ltb, eq-eqb, ne_eqb}
use lib.Dec.{eqb}
use lib.ListN.{length, get_or, take, replicate, length-replicate}
use Rattle.ranges.specs.Ranges.{table, joined, sum_over, count_over, largest_over, number_if}
use Rattle.ranges.proofs.Inside.{number_if_low}
use Rattle.ranges.proofs.Bools.{clash, pair}
use Rattle.ranges.proofs.Largest.{largest_le}
use Rattle.ranges.proofs.Tables.{get_d_table}
use Rattle.ranges.proofs.Tests.{count_fails}
use Rattle.answers.specs.declared.Edition.{Edition}
use Rattle.answers.specs.Edition.{whole_share, today}
use Rattle.answers.specs.Ruling.{Level, grid_most, day_quarters, HasYear}
use Rattle.dates.specs.Dates.{leap, leap_day, days_to, month_of, season_of}
use Rattle.editions.specs.declared.Editions.{Editions}
use Rattle.editions.specs.Editions.{todays, edition_of}
use Rattle.periods.specs.Period.{period_days, period_date, period_season}
use Rattle.readings.specs.declared.Run.TheVariants.{Period}
use Rattle.readings.specs.Runs.{run_days, day_len, quarter_of, run_readings, reading}
use Rattle.readings.specs.Illegal.{AllLegalIn}
use Rattle.readings.proofs.Quarters.{quarter_first}
use Rattle.readings.proofs.Runs.{len_some, period_run}
use Rattle.readings.proofs.Illegal.{all_legal_in}
use Rattle.sheet.specs.Windows.{is_set}
use Rattle.sheet.specs.Bytes.{sheet_size}
use Rattle.windows.specs.Chosen.{above_line, comes_before, rank, kept}
use Rattle.grid_curves.specs.Curves.{in_season, top_of, curve_at}
use Rattle.grid.specs.Rows.{period_peak}
use Rattle.grid.specs.Rows.WindowsRow.{zero}
use Rattle.grid_curves.proofs.Curves.{curve_le, in_curve}
use Rattle.tariff.proofs.Answered.{number_is}
use Rattle.demands.specs.Windows.{Kept}
use Rattle.demands.specs.Answers.{sheet_shown, SheetLaid}
use Rattle.demands.specs.Module.{Module}
use Rattle.demands.specs.Demands.{Demands}
use Rattle.demands.specs.Wrong.{OneSheet}
use Rattle.demands.proofs.Example.{today_2025}
use Rattle.demands.proofs.Windows.{peak_plain, curve_plain, kept_plain}
use Rattle.demands.proofs.Series.{everywhere, everywhere_long, everywhere_at, everywhere_peak, at_start, start_later, start_long, start_peak}

-- the reference period of 2025, and a buffer of 56 zeros
pub days_2025 : period_days 2025 ≡ 366
unfolding period_days days_to leap_day leap sum_over joined
days_2025 = refl

pub some_2025 : 0 < run_days (Period 2025)
some_2025 = omega (arith, period_run 2025, days_2025)

abbrev pub blank_buffer : List ℕ
blank_buffer = replicate sheet_size 0

-- the same reading everywhere, and one reading at the very start, 1 September
abbrev pub same : List ℕ
same = everywhere (Period 2025) 1

pub same_peak : period_peak 2025 same ≡ 1
same_peak = rw (← period_run 2025) (everywhere_peak (Period 2025) 1 some_2025)

abbrev first : List ℕ
first = at_start (Period 2025) 1

first_peak : period_peak 2025 first ≡ 1
first_peak = rw (← period_run 2025) (start_peak (Period 2025) 1 some_2025)

-- quarter 0 is kept where it has the peak, and a quarter with curve value 0 never is
kept_top : (peak : ℕ) (curve : List ℕ) → 0 < peak → get_or curve 0 0 ≡ peak → ((p : ℕ) → p < day_quarters → get_or curve p 0 ≤ peak)
    → kept today peak curve 0 ≡ true
unfolding kept rank above_line comes_before
kept_top peak curve h e low =
    let none = count_fails (λ p. above_line today peak (get_or curve p 0) && comes_before curve p 0) day_quarters (λ p l. no_one p (low p l)) in
    pair (lt-ltb (today.line * peak) (whole_share * get_or curve 0 0) (omega arith))
    (lt-ltb (count_over (λ p. above_line today peak (get_or curve p 0) && comes_before curve p 0) day_quarters) today.limit (omega arith))
  where
    last : (p : ℕ) → get_or curve p 0 ≤ peak → Dec (get_or curve p 0 ≡ get_or curve 0 0) → comes_before curve p 0 ≡ false
    last p l (yes q) = simp (eq-eqb _ _ q, le-ltb p 0 (omega arith))
    last p l (no n) = simp (ne_eqb _ _ n, le-ltb (get_or curve 0 0) (get_or curve p 0) (omega arith))

    no_one : (p : ℕ) → get_or curve p 0 ≤ peak → (above_line today peak (get_or curve p 0) && comes_before curve p 0) ≡ false
    no_one p l = rw (last p l (ℕ_discrete (get_or curve p 0) (get_or curve 0 0))) (and-false (above_line today peak (get_or curve p 0)))

kept_none : (ed : Edition) (peak : ℕ) (curve : List ℕ) (q : ℕ) → get_or curve q 0 ≡ 0 → kept ed peak curve q ≡ false
unfolding kept above_line
kept_none ed peak curve q e = rw (le-ltb (ed.line * peak) (whole_share * get_or curve q 0) (omega arith))

-- summer, season 3: the last day of the period lies in it, and the first does not
last_season : period_season 2025 366 ≡ 3
unfolding period_season period_date season_of month_of days_to leap_day leap count_over sum_over joined
last_season = refl

first_season : period_season 2025 1 ≡ 4
unfolding period_season period_date season_of month_of days_to leap_day leap count_over sum_over joined
first_season = refl

abbrev summer_curve : List ℕ → List ℕ
summer_curve xs = table (curve_at 2025 xs (period_days 2025) 3) day_quarters

value_is : (xs : List ℕ) (q : ℕ) → q < day_quarters → get_or (summer_curve xs) q 0 ≡ curve_at 2025 xs (period_days 2025) 3 q
value_is xs q l = get_d_table (curve_at 2025 xs (period_days 2025) 3) day_quarters q 0 l

same_low : (q : ℕ) → q < day_quarters → get_or (summer_curve same) q 0 ≤ 1
same_low q l = omega (arith, value_is same q l, curve_le 2025 same (period_days 2025) 3 q, same_peak)

same_top : get_or (summer_curve same) 0 0 ≡ 1
same_top =
    let d : 365 < period_days 2025 = omega (arith, days_2025) in
    let r = everywhere_at (Period 2025) 1 365 0 (omega (arith, period_run 2025)) (len_some (Period 2025) 365) in
    let c = in_curve 2025 same (period_days 2025) 365 0 d (len_some (Period 2025) 365) in
    omega (arith, same_low 0 (omega arith), value_is same 0 (omega arith), rw (last_season, quarter_first (day_len (Period 2025) 365)) at c)

same_kept : kept today (period_peak 2025 same) (summer_curve same) 0 ≡ true
same_kept = rw same_peak (kept_top 1 (summer_curve same) (omega arith) same_top same_low)

first_zero : curve_at 2025 first (period_days 2025) 3 0 ≤ 0
unfolding curve_at top_of
first_zero = largest_le _ (period_days 2025) 0 (λ d l. go d (dec_lt 0 d))
  where
    go :
        (d : ℕ)
        → Dec (0 < d)
        → number_if (in_season 2025 d 3)
        (largest_over (λ p. number_if (eqb (quarter_of (Period 2025) d p) 0) (reading (Period 2025) first d p)) (day_len (Period 2025) d)) ≤ 0
    go d (yes l) =
        number_if_low (in_season 2025 d 3) (λ e.
        largest_le _ (day_len (Period 2025) d) 0
        (λ p m. number_if_low (eqb (quarter_of (Period 2025) d p) 0) (λ f. omega (arith, start_later (Period 2025) 1 d p l))))
    go d (no l) =
        let e : d ≡ 0 = omega arith in
        rw (e, first_season) (omega arith)

first_left_out : kept today (period_peak 2025 first) (summer_curve first) 0 ≡ false
first_left_out = kept_none today (period_peak 2025 first) (summer_curve first) 0 (omega (arith, value_is first 0 (omega arith), first_zero))

-- 2025 has an edition in today's list
pub has_2025 : HasYear (edition_of todays 2025) 2025
has_2025 = rw today_2025 (record { allowed = record { from = omega arith; to = omega arith }; own = record { from = omega arith; to = omega arith } })

-- quarter 0 of summer is kept, by the definition
abbrev pub KeptBy : Edition → List ℕ → Type 0
KeptBy ed xs = Kept ed (period_peak 2025 xs) (curve_at 2025 xs (period_days 2025) 3) 0

kept_there : (xs : List ℕ) → (kept today (period_peak 2025 xs) (summer_curve xs) 0 ≡ true) ↔ KeptBy today xs
kept_there xs =
    kept_plain today (period_peak 2025 xs) (curve_at 2025 xs (period_days 2025) 3) (summer_curve xs) (λ q l. sym (value_is xs q l)) 0 (omega arith)

pub same_there : KeptBy today same
same_there = (kept_there same).0 same_kept

-- by a line of 100 percent no quarter is
pub none_there : (ed : Edition) → ed.line ≡ 100 → KeptBy ed same → ⊥
none_there ed e h =
    let above : 100 * period_peak 2025 same < 100 * curve_at 2025 same (period_days 2025) 3 0 = rw e at h.above in
    omega (arith, curve_le 2025 same (period_days 2025) 3 0)

-- any module that meets the demands
module _ (m : Module) (d : Demands m) (level : ℕ) (l : Level level) where
  -- under a list that has 2025 it accepts a complete series of 2025 with a peak of 1
  module _ (es : Editions) (has : HasYear (edition_of es 2025) 2025) where
    module _ (xs : List ℕ) (long : length xs ≡ run_readings (Period 2025)) (peak : period_peak 2025 xs ≡ 1) where
      low : AllLegalIn (Period 2025) grid_most xs
      low = (all_legal_in (Period 2025) grid_most xs).0 (rw (period_run 2025) (omega (arith, peak)))

      accepted : (m.windows es 2025 level xs (length blank_buffer)).number ≡ 0
      accepted =
          (d.exactly_when.windows es 2025 level xs blank_buffer 0).1
          (zero (record {
            enough = omega (arith, length-replicate {A = ℕ} sheet_size 0);
            legal_year = has;
            legal_level = l;
            long = long;
          }) low (omega (arith, peak)))

      laid : SheetLaid m es 2025 level xs blank_buffer
      laid = d.to_the_quarter_hour es 2025 level xs blank_buffer accepted

      -- quarter 0 of summer is a window exactly when it is kept
      window : (is_set (sheet_shown m es 2025 level xs blank_buffer).windows 3 0 ≡ true) ↔ KeptBy (edition_of es 2025) xs
      window =
          laid.windows_are 3 0 (record { from = omega arith; to = omega arith }) (omega arith)
          (period_peak 2025 xs) (curve_at 2025 xs (period_days 2025) 3) (peak_plain 2025 xs) (curve_plain 2025 xs 3)

    pub same_laid_by : SheetLaid m es 2025 level same blank_buffer
    same_laid_by = laid same (everywhere_long (Period 2025) 1) same_peak

    pub same_window : (is_set (sheet_shown m es 2025 level same blank_buffer).windows 3 0 ≡ true) ↔ KeptBy (edition_of es 2025) same
    same_window = window same (everywhere_long (Period 2025) 1) same_peak

  pub same_accepted : (m.windows todays 2025 level same (length blank_buffer)).number ≡ 0
  same_accepted = accepted todays has_2025 same (everywhere_long (Period 2025) 1) same_peak

  pub same_laid : SheetLaid m todays 2025 level same blank_buffer
  same_laid = same_laid_by todays has_2025

  first_accepted : (m.windows todays 2025 level first (length blank_buffer)).number ≡ 0
  first_accepted = accepted todays has_2025 first (start_long (Period 2025) 1 some_2025) first_peak

  first_window : (is_set (sheet_shown m todays 2025 level first blank_buffer).windows 3 0 ≡ true) ↔ KeptBy today first
  first_window = rw today_2025 at (window todays has_2025 first (start_long (Period 2025) 1 some_2025) first_peak)

  -- the buffer of zeros does not stay: "H" stands at its start
  pub not_blank : m.windows_laid todays 2025 level same blank_buffer ≡ blank_buffer → ⊥
  not_blank stays =
      let marked = (d.sheets.read_so todays (take sheet_size (m.windows_laid todays 2025 level same blank_buffer)) (number_is same_laid.accepted)).h in
      omega (arith, marked, ap (λ (b : List ℕ). get_or (take sheet_size b) 0 0) stays)

  -- it is a window of the one series and not of the other
  pub one_sheet : OneSheet m → ⊥
  one_sheet o =
      let shown : List Bool → Bool = λ w. is_set w 3 0 in
      let set : is_set o.windows 3 0 ≡ true =
      ap shown (sym (o.fixed 2025 level same blank_buffer same_accepted)) ∙ (same_window todays has_2025).1 (rw today_2025 same_there) in
      let held : is_set (sheet_shown m todays 2025 level first blank_buffer).windows 3 0 ≡ true =
      ap shown (o.fixed 2025 level first blank_buffer first_accepted) ∙ set in
      clash ((kept_there first).1 (first_window.0 held)) first_left_out
