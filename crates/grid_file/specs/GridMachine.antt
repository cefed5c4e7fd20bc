-- The machine that the window program drives, as a reader of a file (room `fields`, specs/Machine): what it holds, its
-- steps, and what closing it answers. Rules 10.4 to 10.6.
use Rattle.std.specs.Prelude.{List, ℕ, replicate}
use Rattle.answers.specs.Said.{Said}
use Rattle.editions.specs.declared.Editions.{Editions}
use Rattle.periods.specs.Period.{period_days}
use Rattle.readings.specs.declared.Run.TheVariants.{Period}
use Rattle.sheet.specs.Bytes.{sheet_size}
use Rattle.grid_days.specs.declared.Grid.{Grid}
use Rattle.grid_days.specs.Days.{grid_day_answer, day_grid, grid_close_answer, grid_close_buffer}
use Rattle.fields.specs.declared.Stage.{Stage}
use Rattle.fields.specs.declared.Stage.TheVariants.{Going}
use Rattle.fields.specs.Machine.{Reader, wants, fed}
use Rattle.file_machine.specs.declared.File.{File}
use Rattle.file_machine.specs.FileMachine.{Kind, file_reader}
use Rattle.grid_file.specs.declared.GridSeries.{GridSeries}
use Rattle.grid_head.specs.Header.{grid_layout, grid_head_most, opened_grid}
use Rattle.grid_file.specs.Grid.{blank_sheet, with_sheet}

-- the machine's states
abbrev pub GridFile : Type 0
GridFile = File GridSeries grid_head_most

-- what is the grid file's own: its days are those of the reference period, and the grid's series takes them in; `seen`
-- is how many are taken
abbrev pub grid_kind : Kind GridSeries
grid_kind =
    record {
      layout = grid_layout;
      fresh = λ es. record { grid = opened_grid es (replicate grid_head_most 0) };
      opened = λ es old head k. record { grid = opened_grid es head };
      seen = λ s. s.grid.seen;
      run = λ s. Period s.grid.year;
      days = λ s. period_days s.grid.year;
      said = λ s day. grid_day_answer s.grid day;
      added = λ s day. record { grid = day_grid s.grid day };
    }

-- the state in the header: es is the list of editions, k fields are taken, and these are the header's bytes; and the
-- state before the first byte
abbrev pub grid_head : Editions → ℕ → List ℕ → GridFile
grid_head es k head = record { editions = es; field = k; head = head; series = record { grid = opened_grid es head }; stage = Going }

abbrev pub grid_start : Editions → GridFile
grid_start es = grid_head es 0 (replicate grid_head_most 0)

-- the state that has ended at a stage
abbrev pub grid_ended : GridFile → Stage → GridFile
grid_ended s stage = record { editions = s.editions; field = s.field; head = s.head; series = s.series; stage = stage }

-- as a reader
abbrev pub grid_reader : Reader GridFile
grid_reader = file_reader grid_kind

-- how many bytes it wants, and what it does with those that came
abbrev pub grid_wants : GridFile → ℕ
grid_wants s = wants grid_reader s

abbrev pub grid_fed : GridFile → List ℕ → GridFile
grid_fed s b = fed grid_reader s b

-- closing: 0 has the sheet's bytes as its figures
abbrev pub closed_grid : Grid → Said
closed_grid g = with_sheet (grid_close_answer g sheet_size) (grid_close_buffer g blank_sheet)
