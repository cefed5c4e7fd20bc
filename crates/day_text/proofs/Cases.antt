-- What the day program prints for some inputs, the example of Rule 10.11 first: one list of cases, one statement,
-- computed by the checker.
-- Assumes nothing.
use mathlib.Core.Path.{refl}
use mathlib.Core.List.{List, [], ◌∷◌}
use Rattle.ranges.specs.Ranges.{first_over, joined, sum_over, any_over, table}
use Rattle.answers.specs.Ruling.{lacks_year}
use Rattle.dates.specs.Dates.{leap, leap_day, days_to, day_number, weekday_of}
use Rattle.holidays.specs.Holidays.{listed, bad_holidays}
use Rattle.day_kinds.specs.Kinds.{christmas, free, candidate, bridge, kind_by}
use Rattle.editions.specs.Editions.{place_for, edition_of}
use Rattle.calendar.specs.Answer.{day_out, calendar_answer}
use Rattle.encoding.specs.Bytes.{ascii}
use Rattle.texts.proofs.Cases.{Case, Hold}
use Rattle.day_text.specs.Asked.{no_dates, no_such_date, why_answer}
use Rattle.day_text.specs.Text.{weekday_name, kind_word, day_line, wrong_line, usage_line, why_text}

abbrev pub cases : List Case
cases =
    record { text = why_text (ascii "2025-05-02\n2025-05-01\n"); printed = ascii "2025-05-02 Friday bridge day\n" }
    ∷ record { text = why_text (ascii "2025-05-02\n"); printed = ascii "2025-05-02 Friday window\n" }
    -- the last day of a leap year
    ∷ record { text = why_text (ascii "2024-12-31\n"); printed = ascii "2024-12-31 Tuesday Christmas\n" }
    ∷ record { text = why_text (ascii "2013-02-30\n"); printed = ascii "REFUSED 1 the year is not one of 2014 to 2028\n" }
    -- of another year, and not rising
    ∷ record {
      text = why_text (ascii "2025-05-02\n2024-05-01\n");
      printed = ascii "REFUSED 3 the holidays are not rising days of that year, 40 at most\n";
    }
    ∷ record {
      text = why_text (ascii "2025-05-02\n2025-05-01\n2025-05-01\n");
      printed = ascii "REFUSED 3 the holidays are not rising days of that year, 40 at most\n";
    }
    -- asked for, and listed
    ∷ record { text = why_text (ascii "2025-02-29\n"); printed = ascii "REFUSED 13 a year does not have the date\n" }
    ∷ record { text = why_text (ascii "2025-05-02\n2023-02-29\n"); printed = ascii "REFUSED 13 a year does not have the date\n" }
    -- no line, and one that is cut off
    ∷ record { text = why_text []; printed = usage_line }
    ∷ record { text = why_text (ascii "2025-05-02"); printed = usage_line }
    ∷ []

pub worked : Hold cases
unfolding
    why_text no_dates no_such_date why_answer weekday_name kind_word day_line wrong_line usage_line calendar_answer day_out
    kind_by bridge candidate free christmas bad_holidays listed day_number weekday_of days_to leap_day leap lacks_year edition_of place_for
    any_over first_over table sum_over joined
worked = (refl, (refl, (refl, (refl, (refl, (refl, (refl, (refl, (refl, (refl, tt))))))))))
