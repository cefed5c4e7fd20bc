-- The header of a grid file, by the file's bytes b: mark, version, year and level, each as wide as in a window sheet.
-- es is the list of editions. Places count from 0. Rule 10.2.
use Rattle.std.specs.Prelude.{List, [], ◌∷◌, ℕ, ◌+◌, get_or}
use Rattle.editions.specs.declared.Editions.{Editions}
use Rattle.editions.specs.Editions.{edition_of}
use Rattle.encoding.specs.Bytes.{ascii, two_at, mark_size, version_size, year_size}
use Rattle.grid_days.specs.declared.Grid.{Grid}
use Rattle.grid_days.specs.Days.{open_grid}
use Rattle.fields.specs.Layout.{Field, Layout, layout_of}
use Rattle.fields.specs.Common.{mark_field, version_field, year_field, level_field}

-- the mark
abbrev pub grid_mark : List ℕ
grid_mark = ascii "GRD"

-- the fields of the header, in order, the first being field 0
abbrev pub grid_fields : Editions → List ℕ → List Field
grid_fields es b = mark_field grid_mark b ∷ version_field b ∷ year_field es b ∷ level_field b ∷ []

unfoldable pub grid_layout : Editions → List ℕ → Layout
grid_layout es b = layout_of (grid_fields es b)

-- the year, and the level behind it (a code from 1)
abbrev pub grid_year : List ℕ → ℕ
grid_year b = two_at b (mark_size + version_size)

abbrev pub grid_level : List ℕ → ℕ
grid_level b = get_or b (mark_size + version_size + year_size) 0

-- how many bytes the header has
abbrev pub grid_head_most : ℕ
grid_head_most = 8

-- the grid's series that the header opens
abbrev pub opened_grid : Editions → List ℕ → Grid
opened_grid es b = open_grid (edition_of es (grid_year b)) (grid_year b) (grid_level b)
