-- The printed examples of Rules 10.6 and 10.7, and lines at the edges (a whole day, both ends of a day, refusals), are
-- what the definitions say: one list of cases, one statement, computed by the checker.
-- Assumes nothing.
use mathlib.Core.Path.{refl}
use mathlib.Core.Bool.{true, false, ◌||◌}
use mathlib.Core.List.{List, [], ◌∷◌, ◌++◌}
use lib.Dec.{eqb}
use lib.ListN.{replicate}
use Rattle.ranges.specs.Ranges.{joined, any_over, first_over}
use Rattle.answers.specs.Said.{only, bad_place}
use Rattle.encoding.specs.Bytes.{ascii}
use Rattle.sheet.specs.Windows.{is_set}
use Rattle.texts.specs.Text.{text_over}
use Rattle.texts.proofs.Cases.{Case, Hold}
use Rattle.lines.specs.Figures.{decimal_of, field_of, figures_line, line_figures, statement_line, refused_line}
use Rattle.window_lines.specs.Runs.{head_line, time_of, run_line, run_text, season_text, windows_text}

abbrev pub cases : List Case
cases =
    record { text = season_text 1 (λ q. eqb q 72); printed = ascii "1 18:00-18:15\n" }
    ∷ record { text = season_text 2 (λ q. false); printed = ascii "2 none\n" }
    -- the whole day is one run, and it ends at 24:00
    ∷ record { text = season_text 3 (λ q. true); printed = ascii "3 00:00-24:00\n" }
    -- no run goes over midnight
    ∷ record { text = season_text 4 (λ q. eqb q 0 || eqb q 95); printed = ascii "4 00:00-00:15\n4 23:45-24:00\n" }
    -- the example of Rule 10.6
    ∷ record {
      text = windows_text 2025 5 (replicate 72 false ++ (true ∷ replicate 311 false));
      printed = ascii "HLZ 2025 5\n1 18:00-18:15\n2 none\n3 none\n4 none\n";
    }
    ∷ record { text = refused_line (line_figures (only 7)); printed = ascii "REFUSED 7\n" }
    ∷ record { text = refused_line (line_figures (bad_place (record { day = 366; position = 95 }))); printed = ascii "REFUSED 5 366 95\n" }
    -- the example of Rule 10.7
    ∷ record {
      text = statement_line (record { number = 0; figures = 1001500 ∷ 2001500 ∷ 1000000 ∷ 1500000 ∷ 500000 ∷ 2 ∷ 72 ∷ [] });
      printed = ascii "0 1001500 2001500 1000000 1500000 500000 2 72\n";
    }
    ∷ []

pub worked : Hold cases
unfolding windows_text season_text run_text run_line time_of head_line refused_line figures_line field_of decimal_of text_over joined any_over first_over is_set
worked = (refl, (refl, (refl, (refl, (refl, (refl, (refl, (refl, tt))))))))
