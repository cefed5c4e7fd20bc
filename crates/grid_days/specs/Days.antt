-- A grid series day by day: opening, a day, closing, and the state between them. Rules 8.2 and 9.3 to 9.6. Days count
-- from 0: the next day is day `seen`. The state keeps the edition ed of its year, by which it was opened. The buffer
-- for the sheet comes with the closing.
use Rattle.std.specs.Prelude.{cond, not, List, ℕ, ◌+◌, ltb, eqb, length, replicate}
use Rattle.answers.specs.declared.Edition.{Edition}
use Rattle.answers.specs.Edition.{no_edition}
use Rattle.answers.specs.Ruling.{grid_most}
use Rattle.answers.specs.Said.{Said, only, after}
use Rattle.periods.specs.Period.{period_days}
use Rattle.readings.specs.declared.Run.TheVariants.{Period}
use Rattle.readings.specs.Days.{shut_days, next_answer}
use Rattle.sheet.specs.Windows.{window_places}
use Rattle.sheet.specs.Bytes.{sheet_size}
use Rattle.grid_curves.specs.Curves.{merged}
use Rattle.grid.specs.Answers.{grid_open_answer, finish_answer, finished}
use Rattle.grid_days.specs.declared.Grid.{Grid}

-- an accepted opening holds no day; a refused one hands back one fixed state, which takes no day and never
-- closes.
abbrev pub fresh_grid : Edition → ℕ → ℕ → Grid
fresh_grid ed y level = record { edition = ed; year = y; level = level; seen = 0; curves = replicate window_places 0 }

abbrev pub shut_grid : Grid
shut_grid = record { edition = no_edition; year = 0; level = 0; seen = shut_days; curves = replicate window_places 0 }

abbrev pub open_grid : Edition → ℕ → ℕ → Grid
open_grid ed y level = after (grid_open_answer ed y level) (fresh_grid ed y level) shut_grid

-- a day: what the run answers where as many days are taken
abbrev pub grid_day_answer : Grid → List ℕ → Said
grid_day_answer g day = next_answer (Period g.year) grid_most g.seen day

abbrev pub grid_taken : Grid → List ℕ → Grid
grid_taken g day =
    record {
      edition = g.edition;
      year = g.year;
      level = g.level;
      seen = g.seen + 1;
      curves = merged g.year g.curves g.seen day;
    }

unfoldable pub day_grid : Grid → List ℕ → Grid
day_grid g day = after (grid_day_answer g day) (grid_taken g day) g

-- the same of lent curves, where so many days are taken
unfoldable pub day_curves : ℕ → List ℕ → ℕ → List ℕ → List ℕ
day_curves y flat seen day = after (next_answer (Period y) grid_most seen day) (merged y flat seen day) flat

-- closing: 14, then 13 for a state that does not have all days, then as the whole series
unfoldable pub grid_close_answer : Grid → ℕ → Said
grid_close_answer g room =
    cond (ltb room sheet_size) (only 14)
    (cond (not (eqb g.seen (period_days g.year))) (only 13)
    (finish_answer g.edition g.year g.level g.curves room))

unfoldable pub grid_close_buffer : Grid → List ℕ → List ℕ
grid_close_buffer g buffer = after (grid_close_answer g (length buffer)) (finished g.edition g.year g.level g.curves buffer) buffer
