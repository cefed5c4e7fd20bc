-- What is answered is exactly what the rules say, for every input: each call's number, the windows of a written sheet,
-- which quarters are in-window with M, S and H, and that days close as the whole series does. A row (`DayRow`, ..) says
-- when a call gives a number, by ≤, < and ≡ and not by the tests that the definitions compute with: what Rule 8.1 says
-- of the number holds, and nothing that the call tests before it. Rows stand in the specs/Rows of their crates, a
-- calendar day's in calendar, specs/Answer. Rules 2.2, 4.2 to 4.6, 6.2 to 6.5, 8.1, 8.2, 9.2, 9.4 and 12.2.
use Rattle.std.specs.Prelude.{◌≡◌, true, false, ◌↔◌, ◌⊎◌, List, [], ◌∷◌, ℕ, ◌+◌, ◌≤◌, ◌<◌, length, get_or, take, drop}
use Rattle.ranges.specs.Limits.{Within}
use Rattle.ranges.specs.Ranges.{sum_over}
use Rattle.answers.specs.declared.Edition.{Edition}
use Rattle.answers.specs.Ruling.{HasYear, day_quarters, grid_most, customer_most, missing}
use Rattle.answers.specs.Said.{only, bad_place}
use Rattle.editions.specs.declared.Editions.{Editions}
use Rattle.editions.specs.Editions.{edition_of}
use Rattle.editions.specs.Loading.{LoadRow}
use Rattle.dates.specs.Dates.{season_of}
use Rattle.periods.specs.Period.{period_days}
use Rattle.calendar.specs.Answer.{DayRow}
use Rattle.readings.specs.declared.Run.{Run}
use Rattle.readings.specs.declared.Run.TheVariants.{Period}
use Rattle.readings.specs.Runs.{run_days, day_len, day_start, quarter_of, reading}
use Rattle.readings.specs.Part.{run_year}
use Rattle.readings.specs.Days.{BadThere, AsWhole}
use Rattle.readings.specs.Rows.{NextRow}
use Rattle.sheet.specs.declared.Sheet.{Sheet}
use Rattle.sheet.specs.Windows.{seasons, is_set}
use Rattle.sheet.specs.Bytes.{sheet_size}
use Rattle.sheet.specs.Rows.{ReadRow, WriteRow}
use Rattle.sheet_read.specs.Editions.{sheet_edition}
use Rattle.grid_days.specs.declared.Grid.{Grid}
use Rattle.grid.specs.Rows.{OpenRow, WindowsRow}
use Rattle.grid_days.specs.Rows.{CloseRow}
use Rattle.tariff.specs.declared.Rates.{Rates}
use Rattle.tariff.specs.declared.Figures.{Figures}
use Rattle.tariff.specs.Rows.{EligibleRow, ChargeRow, JudgeRow}
use Rattle.figures.specs.Figures.{FirstPlace}
use Rattle.terms.specs.Basis.{Basis, basis_year}
use Rattle.terms.specs.Rows.{CustomerOpenRow}
use Rattle.customer_days.specs.declared.Customer.{Customer}
use Rattle.customer.specs.Rows.{DecideRow}
use Rattle.customer_days.specs.Rows.{CustomerDayRow, CustomerCloseRow}
use Rattle.customer.specs.Demand.{basis_run, basis_days, in_window, LegalYear, basis_figures}
use Rattle.demands.specs.Windows.{IsPeak, IsCurve, Kept}
use Rattle.demands.specs.Module.{Module, grid_end, grid_whole}

-- Rules 8.1 and 8.2: each call gives a number n exactly when the row of n holds, by the edition of its year. Above each
-- call stand the numbers that it can give.
pub record ExactlyWhen (m : Module) : Type 0 where
  -- 0, 22
  pub load : (es : Editions) (ed : Edition) (n : ℕ) → ((m.load es ed).number ≡ n) ↔ LoadRow es ed n
  -- 0, 1, 3, 13; the day d counts from 1
  pub calendar : (es : Editions) (y : ℕ) (hs : List ℕ) (d n : ℕ) → ((m.calendar es y hs d).number ≡ n) ↔ DayRow (edition_of es y) y hs d n
  -- 0, 1, 2, 12
  pub read : (es : Editions) (b : List ℕ) (n : ℕ) → ((m.read es b).number ≡ n) ↔ ReadRow (sheet_edition es b) b n
  -- 0, 1, 2, 12, 14
  pub write : (es : Editions) (s : Sheet) (room n : ℕ) → ((m.write es s room).number ≡ n) ↔ WriteRow (edition_of es s.year) s room n
  -- 0, 1, 2, 4, 5, 7, 14
  pub windows :
      (es : Editions) (y level : ℕ) (xs buffer : List ℕ) (n : ℕ)
      → ((m.windows es y level xs (length buffer)).number ≡ n) ↔ WindowsRow (edition_of es y) y level xs (length buffer) n
  -- opening 0, 1, 2; a day 0, 4, 5, 13; closing 0, 7, 13, 14, and 1 or 2 only on a state that no call handed back (Rule
  -- 9.6)
  pub grid_open_law : (es : Editions) (y level n : ℕ) → ((m.grid_open es y level).number ≡ n) ↔ OpenRow (edition_of es y) y level n
  pub grid_day_law : (g : Grid) (day : List ℕ) (n : ℕ) → ((m.grid_day g day).number ≡ n) ↔ NextRow (Period g.year) grid_most g.seen day n
  pub grid_close_law : (g : Grid) (buffer : List ℕ) (n : ℕ) → ((m.grid_close g (length buffer)).number ≡ n) ↔ CloseRow g (length buffer) n
  -- may the customer pay less: 0, 2, 6, 8, 9, 10; what is the charge: 0, 6, 8, 11; both: 0, 2, 6, 8, 9, 10, 11
  pub eligible : (ed : Edition) (f : Figures) (r : Rates) (n : ℕ) → ((m.eligible ed f r).number ≡ n) ↔ EligibleRow ed f r n
  pub charge : (ed : Edition) (f : Figures) (r : Rates) (n : ℕ) → ((m.charge ed f r).number ≡ n) ↔ ChargeRow ed f r n
  pub judge : (ed : Edition) (f : Figures) (r : Rates) (n : ℕ) → ((m.judge ed f r).number ≡ n) ↔ JudgeRow ed f r n
  -- 0 to 6, 8 to 12
  pub decide :
      (k : Basis) (xs : List ℕ) (n : ℕ)
      → ((m.decide k xs).number ≡ n) ↔ DecideRow k xs n
  -- opening 0, 1, 2, 3, 6, 12; a day 0, 4, 5, 13; closing 0, 8 to 11, 13, and 2 or 6 only on a state that no call
  -- handed back (Rule 9.6)
  pub customer_open_law : (k : Basis) (n : ℕ) → ((m.customer_open k).number ≡ n) ↔ CustomerOpenRow k n
  pub customer_day_law : (c : Customer) (day : List ℕ) (n : ℕ) → ((m.customer_day c day).number ≡ n) ↔ CustomerDayRow c day n
  pub customer_close_law : (c : Customer) (n : ℕ) → ((m.customer_close c).number ≡ n) ↔ CustomerCloseRow c n

-- Rule 2.2: a lost reading is illegal. A grid's series that has one is answered neither 0 nor 7, so no peak is looked
-- at; a customer's is answered neither 0 nor 8 to 11, so nothing is decided; a day that has one is refused. Days d and
-- positions p in a day count from 0.
pub record NeverLegal (m : Module) : Type 0 where
  pub grid :
      (es : Editions) (y level : ℕ) (xs buffer : List ℕ) (d p : ℕ)
      → d < period_days y
      → p < day_len (Period y) d
      → reading (Period y) xs d p ≡ missing
      → ((m.windows es y level xs (length buffer)).number ≡ 0) ⊎ ((m.windows es y level xs (length buffer)).number ≡ 7)
      → ⊥
  pub grid_day_law : (g : Grid) (day : List ℕ) (p : ℕ) → p < length day → get_or day p 0 ≡ missing → (m.grid_day g day).number ≡ 0 → ⊥
  pub customer :
      (k : Basis) (xs : List ℕ) (d p : ℕ)
      → d < basis_days k
      → p < day_len (basis_run k) d
      → reading (basis_run k) xs d p ≡ missing
      → ((m.decide k xs).number ≡ 0) ⊎ Within 8 11 (m.decide k xs).number
      → ⊥
  pub customer_day_law : (c : Customer) (day : List ℕ) (p : ℕ) → p < length day → get_or day p 0 ≡ missing → (m.customer_day c day).number ≡ 0 → ⊥

-- Rule 9.2: of a lent series one day is handed out. In `part` and in `Nothing` days count from 1; d, one less, and the
-- position p count from 0. How many readings a day has and where it begins says room `readings`; in plain words of
-- dates it is `PlainDays` there.
pub record HasWhole (es : Editions) (run : Run) (xs : List ℕ) (d : ℕ) : Type 0 where
  pub year : HasYear (edition_of es (run_year run)) (run_year run)
  pub on : d < run_days run
  pub inside : day_start run d + day_len run d ≤ length xs

-- what is empty: a year without an edition, which would be answered 1, day 0, a day beyond the year or period, and a
-- day of which the series does not have all readings
pub data Nothing (es : Editions) (run : Run) (xs : List ℕ) (day : ℕ) : Type 0 where
  no_year : (HasYear (edition_of es (run_year run)) (run_year run) → ⊥) → Nothing es run xs day
  day_0 : day ≡ 0 → Nothing es run xs day
  beyond : run_days run < day → Nothing es run xs day
  not_held : length xs < day_start run day → Nothing es run xs day

pub record HandedOut (m : Module) : Type 0 where
  pub long : (es : Editions) (run : Run) (xs : List ℕ) (d : ℕ) → HasWhole es run xs d → length (m.part es run xs (d + 1)) ≡ day_len run d
  pub each :
      (es : Editions) (run : Run) (xs : List ℕ) (d p : ℕ)
      → HasWhole es run xs d
      → p < day_len run d
      → get_or (m.part es run xs (d + 1)) p 0 ≡ reading run xs d p
  pub empty : (es : Editions) (run : Run) (xs : List ℕ) (day : ℕ) → Nothing es run xs day → m.part es run xs day ≡ []

-- The windows, to the quarter. `sheet_shown` is the sheet that a reader of the buffer's first 56 bytes has after the
-- call. It is the one that was asked for: year, level, and quarter q, from 0, of season s, from 1, is a window exactly
-- when it is kept of the season's curve (`Kept`, specs/Windows). The bytes behind it stay. Rules 4.2 to 4.6 and 8.3.
module _ (m : Module) where
  abbrev pub sheet_shown : Editions → ℕ → ℕ → List ℕ → List ℕ → Sheet
  sheet_shown es y level xs buffer = m.sheet_read es (take sheet_size (m.windows_laid es y level xs buffer))

  pub record SheetLaid (es : Editions) (y level : ℕ) (xs buffer : List ℕ) : Type 0 where
    pub accepted : m.read es (take sheet_size (m.windows_laid es y level xs buffer)) ≡ only 0
    pub year_is : (sheet_shown es y level xs buffer).year ≡ y
    pub level_is : (sheet_shown es y level xs buffer).level ≡ level
    pub windows_are :
        (s q : ℕ)
        → Within 1 seasons s
        → q < day_quarters
        → (peak : ℕ) (curve : ℕ → ℕ)
        → IsPeak y xs peak
        → IsCurve y xs s curve
        → (is_set (sheet_shown es y level xs buffer).windows s q ≡ true) ↔ Kept (edition_of es y) peak curve q
    pub rest_stays : drop sheet_size (m.windows_laid es y level xs buffer) ≡ drop sheet_size buffer

  abbrev pub ToTheQuarterHour : Type 0
  ToTheQuarterHour = (es : Editions) (y level : ℕ) (xs buffer : List ℕ) → (m.windows es y level xs (length buffer)).number ≡ 0 → SheetLaid es y level xs buffer

-- Rules 6.2 to 6.5, for a complete legal year on an accepted basis (sheet, holidays, prices and option that an opening
-- takes): it is answered 8 exactly when no quarter is in-window; where one is, H is the highest reading of these
-- quarters, and its place the first that has it. Days d and positions p in a day count from 0.
pub record Eligibility (m : Module) : Type 0 where
  -- what Rule 12.3 calls in-window (customer, specs/Demand) is what the calendar and the sheet say: position p of day d
  -- counts exactly when the calendar's answer for the day, which is its day d + 1 from 1, carries kind 1, and the
  -- quarter is a window of the day's season
  pub in_window_law :
      (k : Basis) (d p : ℕ)
      → m.customer_open k ≡ only 0
      → d < basis_days k
      → (in_window k d p ≡ true)
      ↔ (((m.calendar k.editions (basis_year k) k.holidays (d + 1)).figures ≡ 1 ∷ [])
      × (is_set (m.sheet_read k.editions k.sheet).windows (season_of (basis_year k) (d + 1)) (quarter_of (basis_run k) d p) ≡ true))
  -- M is at most b exactly when no reading is above b, so it is the highest reading; S is the sum of all readings
  pub peak :
      (k : Basis) (xs : List ℕ) (b : ℕ)
      → ((basis_figures k xs).peak ≤ b) ↔ ((d p : ℕ) → d < basis_days k → p < day_len (basis_run k) d → reading (basis_run k) xs d p ≤ b)
  pub sum : (k : Basis) (xs : List ℕ) → LegalYear k xs → (basis_figures k xs).sum ≡ sum_over (λ i. get_or xs i 0) (length xs)
  pub eight :
      (k : Basis) (xs : List ℕ)
      → LegalYear k xs
      → ((m.decide k xs).number ≡ 8) ↔ ((d p : ℕ) → d < basis_days k → p < day_len (basis_run k) d → in_window k d p ≡ false)
  pub high :
      (k : Basis) (xs : List ℕ) (d p : ℕ)
      → LegalYear k xs
      → d < basis_days k
      → p < day_len (basis_run k) d
      → in_window k d p ≡ true
      → FirstPlace (basis_run k) (in_window k) xs (basis_days k) (basis_figures k xs)

-- Rule 9.4: once every day was taken, closing gives what the whole series gives. By what the caller sees (`AsWhole`,
-- readings, specs/Days): answer and buffer for the grid, the answer for a customer.
pub record DaysAsWhole (m : Module) : Type 0 where
  pub grid :
      (es : Editions) (y level : ℕ) (buffer : List ℕ)
      → m.grid_open es y level ≡ only 0
      → AsWhole (Period y) grid_most m.grid_day m.grid_next (m.grid_opened es y level) (grid_end m buffer) (grid_whole m es y level buffer)
  pub customer :
      (k : Basis)
      → m.customer_open k ≡ only 0
      → AsWhole (basis_run k) customer_most m.customer_day m.customer_next (m.customer_opened k) m.customer_close (m.decide k)
  -- where the whole series is answered 5, the days before are taken, and that day answers the same place; d and q count
  -- from 0, the answer's day from 1
  pub grid_place :
      (es : Editions) (y level : ℕ) (xs buffer : List ℕ) (d q : ℕ)
      → m.windows es y level xs (length buffer) ≡ bad_place (record { day = d + 1; position = q })
      → BadThere (Period y) m.grid_day m.grid_next (m.grid_opened es y level) xs d q
  pub customer_place :
      (k : Basis) (xs : List ℕ) (d q : ℕ)
      → m.customer_open k ≡ only 0
      → m.decide k xs ≡ bad_place (record { day = d + 1; position = q })
      → BadThere (basis_run k) m.customer_day m.customer_next (m.customer_opened k) xs d q
