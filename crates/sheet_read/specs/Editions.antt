-- The edition that a sheet is read by: of a list of editions, es, the one of the year in the sheet's bytes b. Rules 2.7
-- and 5.3.
use Rattle.std.specs.Prelude.{List, ℕ}
use Rattle.answers.specs.declared.Edition.{Edition}
use Rattle.editions.specs.declared.Editions.{Editions}
use Rattle.editions.specs.Editions.{edition_of}
use Rattle.sheet.specs.Bytes.{sheet_in}

abbrev pub sheet_edition : Editions → List ℕ → Edition
sheet_edition es b = edition_of es (sheet_in b).year
