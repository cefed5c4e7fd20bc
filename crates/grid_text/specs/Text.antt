-- What the window program prints: the windows of the sheet that it finds, or `REFUSED` with the number and, for 5, the
-- place. Said of a file's bytes, and of the machine that reads them. Rule 10.6.
use Rattle.std.specs.Prelude.{cond, List, [], ◌∷◌, ℕ, eqb}
use Rattle.answers.specs.declared.Edition.{Edition}
use Rattle.answers.specs.Said.{Said, bad_place}
use Rattle.editions.specs.declared.Editions.{Editions}
use Rattle.editions.specs.Editions.{edition_of}
use Rattle.sheet.specs.declared.Sheet.{Sheet}
use Rattle.sheet.specs.Answers.{read_sheet}
use Rattle.grid_days.specs.declared.Grid.{Grid}
use Rattle.fields.specs.declared.Stage.{Stage}
use Rattle.fields.specs.declared.Stage.TheVariants.{Going, Refused, BadReading, Complete}
use Rattle.lines.specs.Figures.{line_figures, refused_line}
use Rattle.window_lines.specs.Runs.{windows_text}
use Rattle.grid_head.specs.Header.{grid_year}
use Rattle.grid_file.specs.Grid.{grid_answer}
use Rattle.grid_file.specs.GridMachine.{GridFile, closed_grid}

-- the lines of an answer by an edition: the windows of the sheet whose bytes are the figures of 0, or the refusal
abbrev pub sheet_text : Sheet → List ℕ
sheet_text s = windows_text s.year s.level s.windows

unfoldable pub window_lines : Edition → Said → List ℕ
window_lines ed said = cond (eqb said.number 0) (sheet_text (read_sheet ed said.figures)) (refused_line (line_figures said))

-- all that the window program prints of a file with these bytes, by the list of editions es
abbrev pub windows_printed : Editions → List ℕ → List ℕ
windows_printed es b = window_lines (edition_of es (grid_year b)) (grid_answer es b)

-- what the machine prints, by where it stands: only closing can give the lines of windows. 13 while it goes on, as for
-- closing before the last day (Rule 8.1).
abbrev pub stage_text : Stage → Grid → List ℕ
stage_text Going g = refused_line (13 ∷ [])
stage_text (Refused n) g = refused_line (n ∷ [])
stage_text (BadReading place) g = refused_line (line_figures (bad_place place))
stage_text Complete g = window_lines g.edition (closed_grid g)

abbrev pub grid_text : GridFile → List ℕ
grid_text s = stage_text s.stage s.series.grid
