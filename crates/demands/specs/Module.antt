-- A module as its callers see it: what each call answers, and what it leaves in a state or in a lent buffer. The
-- demands are said of any such module, so that wrong ones can be spoken of, too (specs/Wrong). `ours` is the one that
-- is proved here: each of our calls promises the definition that stands beside its name (docs/PROMISES.md).
use Rattle.std.specs.Prelude.{◌≡◌, List, ℕ, length}
use Rattle.answers.specs.declared.Edition.{Edition}
use Rattle.answers.specs.Said.{Said}
use Rattle.editions.specs.declared.Editions.{Editions}
use Rattle.editions.specs.Editions.{edition_of}
use Rattle.editions.specs.Loading.{load_answer, loaded_with}
use Rattle.calendar.specs.Answer.{calendar_answer}
use Rattle.readings.specs.declared.Run.{Run}
use Rattle.readings.specs.Part.{run_year, day_part}
use Rattle.readings.specs.Days.{offered}
use Rattle.sheet.specs.declared.Sheet.{Sheet}
use Rattle.sheet.specs.Answers.{read_answer, read_sheet, write_answer, written as sheetWritten}
use Rattle.sheet_read.specs.Editions.{sheet_edition}
use Rattle.grid_days.specs.declared.Grid.{Grid}
use Rattle.grid.specs.Answers.{windows_answer, windows_buffer, grid_open_answer}
use Rattle.grid_days.specs.Days.{open_grid, grid_day_answer, day_grid, grid_close_answer, grid_close_buffer}
use Rattle.tariff.specs.declared.Rates.{Rates}
use Rattle.tariff.specs.declared.Figures.{Figures}
use Rattle.tariff.specs.Decision.{eligible_answer, charge_answer, judge_answer}
use Rattle.terms.specs.Basis.{Basis}
use Rattle.terms.specs.Opening.{customer_open_answer}
use Rattle.customer_days.specs.declared.Customer.{Customer}
use Rattle.customer.specs.Answers.{decide_answer}
use Rattle.customer_days.specs.Days.{customer_day_answer, day_customer, customer_close_answer, open_customer}

pub record Module : Type 0 where
  -- loading a record into a list of editions: the answer, and the list then
  pub load : Editions → Edition → Said
  pub loaded : Editions → Edition → Editions
  -- a calendar day: the list of editions, which every call with a year has first; year, holiday list, and the day; days
  -- count from 1
  pub calendar : Editions → ℕ → List ℕ → ℕ → Said
  -- one day of a lent series, as a part of that series: the run (a year's days or a reference period's), the series,
  -- and the day from 1
  pub part : Editions → Run → List ℕ → ℕ → List ℕ
  -- a sheet that is read from bytes: the answer, and the sheet beside it
  pub read : Editions → List ℕ → Said
  pub sheet_read : Editions → List ℕ → Sheet
  -- a sheet that is written into a lent buffer: the answer by the buffer's length, and the buffer then
  pub write : Editions → Sheet → ℕ → Said
  pub written : Editions → Sheet → List ℕ → List ℕ
  -- the windows of a whole grid series: year, level, readings, and a lent buffer for the sheet
  pub windows : Editions → ℕ → ℕ → List ℕ → ℕ → Said
  pub windows_laid : Editions → ℕ → ℕ → List ℕ → List ℕ → List ℕ
  -- the same by days: opening with its state, a day with the next state, closing with the buffer then
  pub grid_open : Editions → ℕ → ℕ → Said
  pub grid_opened : Editions → ℕ → ℕ → Grid
  pub grid_day : Grid → List ℕ → Said
  pub grid_next : Grid → List ℕ → Grid
  pub grid_close : Grid → ℕ → Said
  pub grid_laid : Grid → List ℕ → List ℕ
  -- over an edition, a year's figures and its rates (year, level, option and prices): may the customer pay less, what
  -- the charge is, and both
  pub eligible : Edition → Figures → Rates → Said
  pub charge : Edition → Figures → Rates → Said
  pub judge : Edition → Figures → Rates → Said
  -- a customer's whole year; and by days
  pub decide : Basis → List ℕ → Said
  pub customer_open : Basis → Said
  pub customer_opened : Basis → Customer
  pub customer_day : Customer → List ℕ → Said
  pub customer_next : Customer → List ℕ → Customer
  pub customer_close : Customer → Said

abbrev pub ours : Module
ours =
    record {
      load = load_answer;
      loaded = loaded_with;
      calendar = λ es y. calendar_answer (edition_of es y) y;
      part = λ es run. day_part (edition_of es (run_year run)) run;
      read = λ es b. read_answer (sheet_edition es b) b;
      sheet_read = λ es b. read_sheet (sheet_edition es b) b;
      write = λ es s. write_answer (edition_of es s.year) s;
      written = λ es s. sheetWritten (edition_of es s.year) s;
      windows = λ es y. windows_answer (edition_of es y) y;
      windows_laid = λ es y. windows_buffer (edition_of es y) y;
      grid_open = λ es y. grid_open_answer (edition_of es y) y;
      grid_opened = λ es y. open_grid (edition_of es y) y;
      grid_day = grid_day_answer;
      grid_next = day_grid;
      grid_close = grid_close_answer;
      grid_laid = grid_close_buffer;
      eligible = eligible_answer;
      charge = charge_answer;
      judge = judge_answer;
      decide = decide_answer;
      customer_open = customer_open_answer;
      customer_opened = open_customer;
      customer_day = customer_day_answer;
      customer_next = day_customer;
      customer_close = customer_close_answer;
    }

-- the state after an opening and days that are offered to it, refused ones among them
abbrev pub grid_after : Module → Editions → ℕ → ℕ → List (List ℕ) → Grid
grid_after m es y level days = offered m.grid_next (m.grid_opened es y level) days

abbrev pub customer_after : Module → Basis → List (List ℕ) → Customer
customer_after m k days = offered m.customer_next (m.customer_opened k) days

-- what a grid's series ends in, by closing a state or by the call for whole series: the answer, and the lent buffer
-- then
abbrev pub grid_end : Module → List ℕ → Grid → Said × List ℕ
grid_end m buffer g = (m.grid_close g (length buffer), m.grid_laid g buffer)

abbrev pub grid_whole : Module → Editions → ℕ → ℕ → List ℕ → List ℕ → Said × List ℕ
grid_whole m es y level buffer xs = (m.windows es y level xs (length buffer), m.windows_laid es y level xs buffer)

-- a refusal is an answer with another number than 0
abbrev pub Refused : Said → Type 0
Refused a = a.number ≡ 0 → ⊥
