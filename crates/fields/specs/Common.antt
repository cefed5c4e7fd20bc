-- The fields that the headers of both files have, each with its width in bytes and the number that refuses it. b are
-- the file's bytes, i is the place, from 0, where a field starts. The widths and the tests are those of a window sheet.
-- Rules 10.2 to 10.4.
use Rattle.std.specs.Prelude.{List, ℕ, get_or}
use Rattle.ranges.specs.Ranges.{number_if}
use Rattle.answers.specs.Ruling.{level_out}
use Rattle.editions.specs.declared.Editions.{Editions}
use Rattle.editions.specs.Editions.{year_out}
use Rattle.encoding.specs.Bytes.{mark_size, version_size, year_size, level_size, other_mark, two_at, version_out}
use Rattle.fields.specs.Layout.{Field}

-- the mark: three bytes, else 12; version 1: two bytes, else 12; the year: two bytes, else 1; the level: one byte, else
-- 2
unfoldable pub mark_field : List ℕ → List ℕ → Field
mark_field mark b = record { width = mark_size; refused_at = λ i. number_if (other_mark mark b i) 12 }

unfoldable pub version_field : List ℕ → Field
version_field b = record { width = version_size; refused_at = λ i. number_if (version_out b i) 12 }

unfoldable pub year_field : Editions → List ℕ → Field
year_field es b = record { width = year_size; refused_at = λ i. number_if (year_out es (two_at b i)) 1 }

unfoldable pub level_field : List ℕ → Field
level_field b = record { width = level_size; refused_at = λ i. number_if (level_out (get_or b i 0)) 2 }
