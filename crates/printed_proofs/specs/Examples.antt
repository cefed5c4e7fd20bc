-- The two examples of Rules 10.6 and 10.7, and case 12 of Rule 11.1: from the series, and from the bytes of the file
-- that holds it, to the sheet and to the printed lines. The statement is `Examples`. Rules 10.2, 10.3, 10.6, 10.7 and
-- 11.1.
use Rattle.std.specs.Prelude.{◌≡◌, Bool, false, cond, ◌&&◌, List, [], ◌∷◌, ◌++◌, ℕ, ◌+◌, ◌≤◌, eqb, length, drop}
use Rattle.answers.specs.Edition.{today}
use Rattle.editions.specs.Editions.{todays}
use Rattle.ranges.specs.Ranges.{joined, table, digit_of}
use Rattle.answers.specs.Said.{Said, only}
use Rattle.dates.specs.Dates.{day_of}
use Rattle.periods.specs.Period.{late_days}
use Rattle.readings.specs.declared.Run.{Run}
use Rattle.readings.specs.declared.Run.TheVariants.{Year, Period}
use Rattle.readings.specs.Runs.{run_days, day_len, quarter_of}
use Rattle.encoding.specs.Bytes.{ascii}
use Rattle.sheet.specs.Bytes.{sheet_size}
use Rattle.grid.specs.Answers.{windows_answer, windows_buffer}
use Rattle.terms.specs.Basis.{Basis, basis}
use Rattle.customer.specs.Answers.{decide_answer}
use Rattle.fields.specs.Series.{reading_bytes}
use Rattle.grid_head.specs.Header.{grid_mark}
use Rattle.grid_text.specs.Text.{windows_printed}
use Rattle.customer_head.specs.Header.{customer_mark}
use Rattle.customer_text.specs.Text.{statement_printed}
use Rattle.demands.specs.Cases.{prices, example_sheet}
use Rattle.printed_proofs.specs.Printed.{grid_driven, customer_driven}

-- the series of a run's first n days that has the reading f d p at position p of day d, both from 0
unfoldable pub series_of : Run → (ℕ → ℕ → ℕ) → ℕ → List ℕ
series_of run f n = joined ◌++◌ [] (λ d. table (f d) (day_len run d)) n

-- position p of day d, both from 0, is this quarter, from 0, of this day of the run, from 1
abbrev pub is_at : Run → ℕ → ℕ → ℕ → ℕ → Bool
is_at run day quarter d p = eqb (d + 1) day && eqb (quarter_of run d p) quarter

-- The window program's example: every reading of the period is 1,000 kW, but quarter 72 of 15 January 2024 has 2,000.
-- That day's number in the period, from 1, counts the days of 2023 from 1 September on, then those of 2024.
abbrev pub grid_run : Run
grid_run = Period 2025

unfoldable pub other_day : ℕ
other_day = late_days 2023 + day_of 2024 1 15

abbrev pub grid_reading : ℕ → ℕ → ℕ
grid_reading d p = cond (is_at grid_run other_day 72 d p) 2000 1000

unfoldable pub grid_series : List ℕ
grid_series = series_of grid_run grid_reading (run_days grid_run)

-- The statement program's example: every reading of 2025 is 0, but quarter 0 of 4 January, a Saturday, has 1,000,000 W,
-- and quarter 72 of 2 January, a Thursday, has 500,000. Days of the year count from 1.
abbrev pub customer_run : Run
customer_run = Year 2025

unfoldable pub saturday_day : ℕ
saturday_day = day_of 2025 1 4

unfoldable pub thursday_day : ℕ
thursday_day = day_of 2025 1 2

abbrev pub customer_reading : ℕ → ℕ → ℕ
customer_reading d p = cond (is_at customer_run saturday_day 0 d p) 1000000 (cond (is_at customer_run thursday_day 72 d p) 500000 0)

unfoldable pub customer_series : List ℕ
customer_series = series_of customer_run customer_reading (run_days customer_run)

-- a number of 32 bits as four bytes, high byte first, and the bytes of readings, one reading after the other
unfoldable pub four_bytes : ℕ → List ℕ
four_bytes n = table (digit_of 256 reading_bytes n) reading_bytes

unfoldable pub series_bytes : List ℕ → List ℕ
series_bytes [] = []
series_bytes (x ∷ xs) = four_bytes x ++ series_bytes xs

-- the two files (Rules 10.2 and 10.3): mark and version 1; year 2025 and level 5, or the sheet of case 12, no option,
-- no holidays and the four prices; the readings
abbrev pub grid_header : List ℕ
grid_header = grid_mark ++ (0x00 ∷ 0x01 ∷ 0x07 ∷ 0xe9 ∷ 0x05 ∷ [])

unfoldable pub grid_bytes : List ℕ
grid_bytes = grid_header ++ series_bytes grid_series

abbrev pub price_bytes : List ℕ
price_bytes = four_bytes 2000 ++ (four_bytes 4000 ++ (four_bytes 10000 ++ four_bytes 800))

abbrev pub customer_header : List ℕ
customer_header = customer_mark ++ ((0x00 ∷ 0x01 ∷ []) ++ (example_sheet ++ ((0x00 ∷ 0x00 ∷ []) ++ price_bytes)))

unfoldable pub customer_bytes : List ℕ
customer_bytes = customer_header ++ series_bytes customer_series

-- what the window program prints
abbrev pub example_windows : List ℕ
example_windows = ascii "HLZ 2025 5\n1 18:00-18:15\n2 none\n3 none\n4 none\n"

-- the customer's basis: today's list of editions, that sheet, no holidays, the prices of the cases, and no option
abbrev pub example_basis : Basis
example_basis = basis todays example_sheet [] prices false

-- what the year is answered: the number, c, g, M, S, H, and its day, from 1, and quarter, from 0; and the statement
-- program's line
abbrev pub customer_said : Said
customer_said = record { number = 0; figures = 1001500 ∷ 2001500 ∷ 1000000 ∷ 1500000 ∷ 500000 ∷ 2 ∷ 72 ∷ [] }

abbrev pub example_statement : List ℕ
example_statement = ascii "0 1001500 2001500 1000000 1500000 500000 2 72\n"

-- the grid's series writes the sheet of case 12 into every buffer with room for it, and the bytes behind it stay
pub record ExampleLaid (buffer : List ℕ) : Type 0 where
  pub accepted : windows_answer today 2025 5 grid_series (length buffer) ≡ only 0
  pub laid : windows_buffer today 2025 5 grid_series buffer ≡ example_sheet ++ drop sheet_size buffer

-- a file has this text: what is printed of its bytes, and what the machine that a program drives over them prints, with
-- turns enough (specs/Printed). For a grid file those are 371: 4 fields, at most 366 days, and the end. For a customer
-- file they are 423: at most 56 fields, 366 days, and the end.
pub record Prints (printed : List ℕ) (machine : ℕ → List ℕ) (enough : ℕ) (text : List ℕ) : Type 0 where
  pub of_bytes : printed ≡ text
  pub of_machine : (turns : ℕ) → enough ≤ turns → machine turns ≡ text

pub record Examples : Type 0 where
  -- case 12, from the series to the sheet's bytes
  pub sheet : (buffer : List ℕ) → sheet_size ≤ length buffer → ExampleLaid buffer
  -- the window program's example, from the file's bytes to its lines
  pub windows : Prints (windows_printed todays grid_bytes) (grid_driven todays grid_bytes) 371 example_windows
  -- the statement program's example, from the series to what the decision answers
  pub decision : decide_answer example_basis customer_series ≡ customer_said
  -- and from the file's bytes to its line
  pub statement : Prints (statement_printed todays customer_bytes) (customer_driven todays customer_bytes) 423 example_statement
