-- What a grid file is answered, by the file's bytes b: its header (room `grid_head`), then the readings of the
-- reference period, four bytes each. Rules 10.2, 10.4 and 10.5.
use Rattle.std.specs.Prelude.{List, ℕ, replicate}
use Rattle.answers.specs.declared.Edition.{Edition}
use Rattle.answers.specs.Ruling.{grid_most}
use Rattle.answers.specs.Said.{Said, after}
use Rattle.editions.specs.declared.Editions.{Editions}
use Rattle.editions.specs.Editions.{edition_of}
use Rattle.readings.specs.declared.Run.TheVariants.{Period}
use Rattle.sheet.specs.Bytes.{sheet_size}
use Rattle.grid.specs.Answers.{windows_answer, windows_buffer}
use Rattle.fields.specs.Layout.{head_size}
use Rattle.fields.specs.Series.{series_in}
use Rattle.fields.specs.File.{file_answer}
use Rattle.grid_head.specs.Header.{grid_layout, grid_year, grid_level}

-- a buffer of 56 zeros; and the answer of a call that writes a sheet into a buffer, where 0 has the sheet's bytes as
-- its figures (Rule 8.1)
abbrev pub blank_sheet : List ℕ
blank_sheet = replicate sheet_size 0

abbrev pub with_sheet : Said → List ℕ → Said
with_sheet answer bytes = after answer (record { number = 0; figures = bytes }) answer

-- what the whole series of year y with the edition ed is answered
abbrev pub whole_grid : Edition → ℕ → ℕ → List ℕ → Said
whole_grid ed y level xs = with_sheet (windows_answer ed y level xs sheet_size) (windows_buffer ed y level xs blank_sheet)

-- what a grid file is answered by the list of editions es: for its header, then for its days, and without a fault
-- there, what its whole series is answered
unfoldable pub grid_answer : Editions → List ℕ → Said
grid_answer es b =
    file_answer (grid_layout es b) (Period (grid_year b)) grid_most
    (whole_grid (edition_of es (grid_year b)) (grid_year b) (grid_level b) (series_in b (head_size (grid_layout es b))))
    b
