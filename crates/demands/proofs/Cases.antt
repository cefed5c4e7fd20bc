-- The cases with a star, 1 to 12 (Rule 11.1): every case of the list holds, computed by the checker; case 10, for every
-- peak, by the law of equal values.
-- Assumes nothing.
use mathlib.Core.Path.{◌≡◌, refl}
use Rattle.ranges.specs.Ranges.{joined, largest_over, sum_over, count_over, any_over, table, in_base}
use Rattle.answers.specs.Edition.{today}
use Rattle.answers.specs.Ruling.{share_of, lacks_year, level_out}
use Rattle.dates.specs.Dates.{leap, leap_day, days_to, weekday_of}
use Rattle.holidays.specs.Holidays.{listed, bad_holidays}
use Rattle.day_kinds.specs.Kinds.{christmas, free, candidate, bridge, kind_by}
use Rattle.calendar.specs.Answer.{day_out, calendar_answer}
use Rattle.readings.specs.Legal.{highest_of}
use Rattle.sheet.specs.Windows.{flat_windows}
use Rattle.sheet.specs.Bytes.{window_byte, bytes_of, sheet_bytes}
use Rattle.windows.specs.Chosen.{above_line, comes_before, rank, kept, kept_of, chosen_of}
use Rattle.windows.proofs.Equal.{first_forty}
use Rattle.grid.specs.Answers.{curve_of, curves_of, sheet_of}
use Rattle.tariff.specs.Prices.{row_out, prices_out}
use Rattle.tariff.specs.Charges.{charge_for, general, reduced, floor_of, charge}
use Rattle.tariff.specs.Decision.{eligible_rules, charge_rules, judge_rules, judge_answer}
use Rattle.demands.specs.Cases.{example_curves, example_sheet, AllHold}

-- case 12
pub example_bytes : sheet_bytes (sheet_of today 2025 5 example_curves) ≡ example_sheet
unfolding
    joined largest_over sum_over count_over table in_base highest_of flat_windows window_byte bytes_of above_line comes_before rank kept kept_of chosen_of
    curve_of curves_of sheet_of
example_bytes = refl

pub all_hold : AllHold
unfolding
    joined largest_over sum_over count_over any_over table in_base share_of lacks_year level_out leap leap_day days_to weekday_of listed bad_holidays
    christmas free candidate bridge kind_by day_out calendar_answer
    highest_of flat_windows window_byte bytes_of above_line comes_before rank kept kept_of chosen_of curve_of curves_of sheet_of row_out prices_out
    charge_for general reduced floor_of charge eligible_rules charge_rules judge_rules judge_answer
all_hold u =
    (refl, (refl, (refl, (refl, (refl, (refl, (refl, (refl, (refl, (refl, (refl, (refl, (refl, (refl, (refl, (refl, (first_forty u.peak u.positive, (refl, (refl, (refl, (refl, (refl, (refl, (refl, (example_bytes, tt)))))))))))))))))))))))))
