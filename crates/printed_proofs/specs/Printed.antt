-- What `hlz` and `statement` print, for every list of bytes on standard input. Each has a machine, a state that takes
-- bytes (grid_file, specs/GridMachine; customer_file, specs/CustomerMachine), and hands it, turn by turn, as many as it
-- wants (`driven`): a field, a day, or what comes behind the last day. With turns enough the machine's text is that of
-- grid_text or customer_text, specs/Text, which goes by the list of editions and the file's bytes alone; both programs
-- start it with today's list. The window program's header has 4
-- fields; the statement program's at most 56, with 40 holidays; a year or a period has at most 366 days. Rules 10.4 to
-- 10.7.
use Rattle.std.specs.Prelude.{◌≡◌, List, ℕ, ◌+◌, ◌≤◌}
use Rattle.editions.specs.declared.Editions.{Editions}
use Rattle.fields.specs.File.{driven}
use Rattle.grid_file.specs.GridMachine.{grid_start, grid_wants, grid_fed}
use Rattle.grid_text.specs.Text.{windows_printed, grid_text}
use Rattle.customer_file.specs.CustomerMachine.{customer_start, customer_wants, customer_fed}
use Rattle.customer_text.specs.Text.{statement_printed, customer_text}

-- what the machine that a program drives over these bytes prints after a number of turns
abbrev pub grid_driven : Editions → List ℕ → ℕ → List ℕ
grid_driven es bytes turns = grid_text (driven grid_wants grid_fed turns (grid_start es) bytes)

abbrev pub customer_driven : Editions → List ℕ → ℕ → List ℕ
customer_driven es bytes turns = customer_text (driven customer_wants customer_fed turns (customer_start es) bytes)

abbrev pub WindowsPrinted : Type 0
WindowsPrinted = (es : Editions) (bytes : List ℕ) (turns : ℕ) → 4 + 366 + 1 ≤ turns → grid_driven es bytes turns ≡ windows_printed es bytes

abbrev pub StatementPrinted : Type 0
StatementPrinted =
    (es : Editions) (bytes : List ℕ) (turns : ℕ)
    → 56 + 366 + 1 ≤ turns
    → customer_driven es bytes turns ≡ statement_printed es bytes
