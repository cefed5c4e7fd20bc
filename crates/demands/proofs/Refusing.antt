-- No call of a module that meets the demands refuses always, and none that changes something does nothing: for each an
-- input that shows it.
-- Assumes nothing.
use mathlib.Core.Path.{◌≡◌, refl, sym, ap, ◌∙◌}
use mathlib.Core.List.{List, []}
use Prim.Native.Nat.{ℕ, ◌*◌, ◌≤◌}
use native.Mathlib.Omega.{arith}
use lib.ListN.{length, get_or, take, length-replicate}
use Rattle.ranges.specs.Ranges.{joined, any_over}
use Rattle.ranges.proofs.Tables.{length_table}
use Rattle.answers.specs.declared.Edition.{Edition}
use Rattle.answers.specs.Edition.{today}
use Rattle.answers.specs.Ruling.{Level, grid_most, customer_most, lacks_year, level_out}
use Rattle.answers.specs.Said.{Said, only}
use Rattle.dates.specs.Dates.{leap, leap_day}
use Rattle.holidays.specs.Holidays.{bad_holidays}
use Rattle.answers.proofs.Laws.{today_legal}
use Rattle.editions.specs.declared.Editions.{Editions}
use Rattle.editions.specs.Editions.{no_editions, todays}
use Rattle.editions.specs.Loading.LoadRow.{zero}
use Rattle.calendar.specs.Answer.{day_out, calendar_answer}
use Rattle.readings.specs.declared.Run.{Run}
use Rattle.readings.specs.declared.Run.TheVariants.{Period}
use Rattle.readings.specs.Runs.{run_days}
use Rattle.readings.specs.Illegal.{LegalSeries}
use Rattle.readings.specs.Days.{offered, days_of, AsWhole}
use Rattle.readings.proofs.Runs.{period_run}
use Rattle.readings.proofs.Illegal.{all_legal_in}
use Rattle.sheet.specs.declared.Sheet.{Sheet}
use Rattle.sheet.specs.Windows.{window_places}
use Rattle.sheet.specs.Bytes.{sheet_size, window_at, windows_in, sheet_in}
use Rattle.sheet.specs.Rows.{ReadRow, WriteRow}
use Rattle.sheet.specs.Rows.ReadRow.{malformed, one, two, full, zero}
use Rattle.sheet.specs.Rows.WriteRow.{zero}
use Rattle.grid_days.specs.declared.Grid.{Grid}
use Rattle.grid.specs.Answers.{grid_open_answer}
use Rattle.tariff.specs.Answers.{payable}
use Rattle.tariff.specs.Rows.{EligibleRow, ChargeRow, JudgeRow}
use Rattle.tariff.specs.Rows.EligibleRow.{zero}
use Rattle.tariff.specs.Rows.ChargeRow.{zero}
use Rattle.tariff.specs.Rows.JudgeRow.{two, six, eight, nine, ten, eleven, zero}
use Rattle.tariff.proofs.Answered.{number_is}
use Rattle.tariff.specs.declared.Figures.{Figures}
use Rattle.terms.specs.Basis.{Basis, basis_rates, basis_edition}
use Rattle.customer_days.specs.declared.Customer.{Customer}
use Rattle.customer.specs.Demand.{basis_run, LegalYear, basis_figures}
use Rattle.demands.specs.Module.{Module, grid_end, grid_whole, ours}
use Rattle.demands.specs.Refusals.{zero_alone}
use Rattle.demands.specs.Demands.{Demands}
use Rattle.demands.specs.Wrong.{RefusesAlways, DoesNothing}
use Rattle.demands.specs.Wrong.RefusesAlways.{load, calendar, read, write, windows, grid_open_law, grid_day_law, grid_close_law, eligible, charge, judge, decide, customer_open_law, customer_day_law, customer_close_law}
use Rattle.demands.specs.Wrong.DoesNothing.{load, write, windows, grid_open_law, grid_day_law, grid_close_law, customer_open_law, customer_day_law}
use Rattle.demands.specs.Wrong.WrongDays.{kept}
use Rattle.demands.proofs.Carried.{said_is}
use Rattle.demands.proofs.Answers.{exactly_when}
use Rattle.demands.proofs.Series.{everywhere_long}
use Rattle.demands.proofs.WrongWindows.{blank_buffer, some_2025, same, same_peak, same_accepted, same_laid, not_blank}
use Rattle.demands.proofs.Example.{today_2025, example_edition, example, example_read}
use Rattle.demands.proofs.WrongYears.{priced_basis, xs, legal, row, opened, accepted, pays, some_days}
use Rattle.demands.proofs.WrongDays.{wrong_grid_days, wrong_customer_days}

-- 2 January 2025 without holidays is answered
pub second_january : (calendar_answer today 2025 [] 2).number ≡ 0
unfolding calendar_answer lacks_year bad_holidays day_out leap_day leap any_over joined
second_january = refl

-- the sheet of the example of Rule 10.6 can be read, so it can be written
abbrev pub sheet : Sheet
sheet = sheet_in example

sheet_long : length sheet.windows ≡ window_places
unfolding windows_in
sheet_long = length_table (window_at example) window_places

write_row : {ed : Edition} {b : List ℕ} {n : ℕ} → ReadRow ed b n → n ≡ 0 → WriteRow ed (sheet_in b) (length blank_buffer) 0
write_row (malformed f) e = absurd (omega arith)
write_row (one f y) e = absurd (omega arith)
write_row (two f y l) e = absurd (omega arith)
write_row (full f y l w) e = absurd (omega arith)
write_row (zero f y l w) e = zero (omega (arith, length-replicate {A = ℕ} sheet_size 0)) y l w

-- the example is read under today's list
pub read_example : ours.read todays example ≡ only 0
read_example = rw example_edition example_read

-- 2025 can be opened at levels 5 and 6
pub level_in : (level : ℕ) → 1 ≤ level → level ≤ 7 → Level level
level_in level a b = record { from = a; to = b }

pub opened_5 : (grid_open_answer today 2025 5).number ≡ 0
unfolding grid_open_answer lacks_year level_out
opened_5 = refl

opened_6 : (grid_open_answer today 2025 6).number ≡ 0
unfolding grid_open_answer lacks_year level_out
opened_6 = refl

abbrev period : Run
period = Period 2025

same_legal : LegalSeries period grid_most same
same_legal =
    record {
      long = everywhere_long period 1;
      legal = (all_legal_in period grid_most same).0 (rw (period_run 2025) (omega (arith, same_peak)));
    }

-- the year that is accepted, and what it is eligible for
abbrev pub k : Basis
k = priced_basis 100

abbrev pub year : List ℕ
year = xs 100 (omega arith) (omega arith)

abbrev pub figures : Figures
figures = basis_figures k year

pub lawful : LegalYear k year
lawful = legal 100 (omega arith) (omega arith)

judged : JudgeRow (basis_edition k) figures (basis_rates k) 0
judged = row 100 (omega arith) (omega arith)

pub judged_today : JudgeRow today figures (basis_rates k) 0
judged_today = rw example_edition at judged

pub eligible_row : {ed : Edition} {n : ℕ} → JudgeRow ed figures (basis_rates k) n → n ≡ 0 → EligibleRow ed figures (basis_rates k) 0
eligible_row (two a) e = absurd (omega arith)
eligible_row (six a b) e = absurd (omega arith)
eligible_row (eight h a) e = absurd (omega arith)
eligible_row (nine h a s) e = absurd (omega arith)
eligible_row (ten h s m) e = absurd (omega arith)
eligible_row (eleven h s m cut) e = absurd (omega arith)
eligible_row (zero h s m cut) e = zero h s m

pub charge_row : {ed : Edition} {n : ℕ} → JudgeRow ed figures (basis_rates k) n → n ≡ 0 → ChargeRow ed figures (basis_rates k) 0
charge_row (two a) e = absurd (omega arith)
charge_row (six a b) e = absurd (omega arith)
charge_row (eight h a) e = absurd (omega arith)
charge_row (nine h a s) e = absurd (omega arith)
charge_row (ten h s m) e = absurd (omega arith)
charge_row (eleven h s m cut) e = absurd (omega arith)
charge_row (zero h s m cut) e = zero h.legal_prices s.some cut

module _ (m : Module) (d : Demands m) where
  pub grid_opened_law : (level : ℕ) → (grid_open_answer today 2025 level).number ≡ 0 → m.grid_open todays 2025 level ≡ only 0
  grid_opened_law level z =
      said_is (m.grid_open todays 2025 level) (zero_alone []) 0 (d.carried.grid_open_law todays 2025 level)
      ((d.exactly_when.grid_open_law todays 2025 level 0).1 ((exactly_when.grid_open_law todays 2025 level 0).0 (rw today_2025 z)))

  grid_whole_law :
      (level : ℕ)
      → (grid_open_answer today 2025 level).number ≡ 0
      → AsWhole period grid_most m.grid_day m.grid_next (m.grid_opened todays 2025 level) (grid_end m blank_buffer)
      (grid_whole m todays 2025 level blank_buffer)
  grid_whole_law level z = d.days_as_whole.grid todays 2025 level blank_buffer (grid_opened_law level z)

  abbrev grid_at : ℕ → Grid
  grid_at level = offered m.grid_next (m.grid_opened todays 2025 level) (days_of period same (run_days period))

  grid_closed :
      (level : ℕ)
      → (grid_open_answer today 2025 level).number ≡ 0
      → grid_end m blank_buffer (grid_at level) ≡ grid_whole m todays 2025 level blank_buffer same
  grid_closed level z = (grid_whole_law level z).all_days same same_legal

  pub year_opened : m.customer_open k ≡ only 0
  year_opened = opened 100 (omega arith) (omega arith) m d

  year_whole : AsWhole (basis_run k) customer_most m.customer_day m.customer_next (m.customer_opened k) m.customer_close (m.decide k)
  year_whole = d.days_as_whole.customer k year_opened

  pub year_accepted : (m.decide k year).number ≡ 0
  year_accepted = accepted 100 (omega arith) (omega arith) m d

  pub sheet_written : (m.write todays sheet (length blank_buffer)).number ≡ 0
  sheet_written =
      (d.exactly_when.write todays sheet (length blank_buffer) 0).1
      (write_row ((exactly_when.read todays example 0).0 (number_is read_example)) refl)

  -- today's edition can be loaded into a list without a record
  load_first : (m.load no_editions today).number ≡ 0
  load_first = (d.exactly_when.load no_editions today 0).1 (zero (omega arith) today_legal (λ k h. absurd (omega arith)))

  pub refusing_always : RefusesAlways m → ⊥
  refusing_always (load r) = r no_editions today load_first
  refusing_always (calendar r) =
      r 2025 [] 2
      ((d.exactly_when.calendar todays 2025 [] 2 0).1 ((exactly_when.calendar todays 2025 [] 2 0).0 (rw today_2025 second_january)))
  refusing_always (read r) = r example ((d.exactly_when.read todays example 0).1 ((exactly_when.read todays example 0).0 (number_is read_example)))
  refusing_always (write r) = r sheet blank_buffer sheet_written
  refusing_always (windows r) = r 2025 5 same blank_buffer (same_accepted m d 5 (level_in 5 (omega arith) (omega arith)))
  refusing_always (grid_open_law r) = r 2025 5 (number_is (grid_opened_law 5 opened_5))
  refusing_always (grid_day_law r) = r _ _ (number_is ((grid_whole_law 5 opened_5).every_day same same_legal 0 some_2025))
  refusing_always (grid_close_law r) =
      r (grid_at 5) blank_buffer
      (ap (λ (c : Said × List ℕ). c.0.number) (grid_closed 5 opened_5) ∙ same_accepted m d 5 (level_in 5 (omega arith) (omega arith)))
  refusing_always (eligible r) = r figures (basis_rates k) ((d.exactly_when.eligible today figures (basis_rates k) 0).1 (eligible_row judged_today refl))
  refusing_always (charge r) = r figures (basis_rates k) ((d.exactly_when.charge today figures (basis_rates k) 0).1 (charge_row judged_today refl))
  refusing_always (judge r) = r figures (basis_rates k) ((d.exactly_when.judge today figures (basis_rates k) 0).1 judged_today)
  refusing_always (decide r) = r k year refl year_accepted
  refusing_always (customer_open_law r) = r k refl (number_is year_opened)
  refusing_always (customer_day_law r) = r _ _ (number_is (year_whole.every_day year lawful.series 0 (some_days 100 (omega arith) (omega arith))))
  refusing_always (customer_close_law r) = r _ (number_is (year_whole.all_days year lawful.series) ∙ year_accepted)

  -- two levels, and two price lists: an opening that hands back one state closes both alike
  one_grid : (g : Grid) → ((y level : ℕ) → m.grid_opened todays y level ≡ g) → ⊥
  one_grid g fixed =
      let state : grid_at 5 ≡ grid_at 6 = ap (λ (s : Grid). offered m.grid_next s (days_of period same (run_days period))) (fixed 2025 5
      ∙ sym (fixed 2025 6)) in
      let laid = ap (λ (c : Said × List ℕ). c.1) (sym (grid_closed 5 opened_5) ∙ ap (grid_end m blank_buffer) state ∙ grid_closed 6 opened_6) in
      let five = (same_laid m d 5 (level_in 5 (omega arith) (omega arith))).level_is in
      let six = (same_laid m d 6 (level_in 6 (omega arith) (omega arith))).level_is in
      omega (arith, five, six, ap (λ (b : List ℕ). (m.sheet_read todays (take sheet_size b)).level) laid)

  one_customer : (c : Customer) → ((k : Basis) → k.editions ≡ todays → m.customer_opened k ≡ c) → ⊥
  one_customer c fixed = omega (arith, at 100 (omega arith) (omega arith), at 200 (omega arith) (omega arith))
    where
      at :
          (price : ℕ)
          → 100 ≤ price
          → price ≤ 100000
          → payable (m.customer_close (offered m.customer_next c (days_of (basis_run k) year (run_days (basis_run k))))) ≡ 200 * price
      at price least most =
          ap (λ (s : Customer). payable (m.customer_close (offered m.customer_next s (days_of (basis_run k) year (run_days (basis_run k))))))
          (sym (fixed (priced_basis price) refl))
          ∙ ap payable
          ((d.days_as_whole.customer (priced_basis price) (opened price least most m d)).all_days (xs price least most) (legal price least most).series)
          ∙ pays price least most m d

  pub doing_nothing : DoesNothing m → ⊥
  doing_nothing (load idle) =
      omega (arith, d.loadings.longer no_editions today load_first, ap (λ (es : Editions). es.count) (idle no_editions today))
  doing_nothing (write idle) =
      let marked = (d.sheets.written_so todays sheet blank_buffer sheet_long sheet_written).h in
      omega (arith, marked, ap (λ (b : List ℕ). get_or (take 56 b) 0 0) (idle sheet blank_buffer))
  doing_nothing (windows idle) = not_blank m d 5 (level_in 5 (omega arith) (omega arith)) (idle 2025 5 same blank_buffer)
  doing_nothing (grid_open_law g fixed) = one_grid g fixed
  doing_nothing (grid_day_law idle) = wrong_grid_days m d todays 2025 5 (grid_opened_law 5 opened_5) (kept idle)
  doing_nothing (grid_close_law idle) =
      not_blank m d 5 (level_in 5 (omega arith) (omega arith)) (ap (λ (c : Said × List ℕ). c.1) (sym (grid_closed 5 opened_5)) ∙ idle (grid_at 5) blank_buffer)
  doing_nothing (customer_open_law c fixed) = one_customer c fixed
  doing_nothing (customer_day_law idle) = wrong_customer_days m d k year_opened (kept idle)
