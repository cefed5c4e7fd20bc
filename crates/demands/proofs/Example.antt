-- The sheet of the example of Rule 10.6: that it is read, its year and its share; and with no holidays which of the
-- first days of 2025 carry windows.
-- Assumes nothing.
use mathlib.Core.Path.{◌≡◌, refl, ap, ◌∙◌}
use mathlib.Core.Bool.{true, false}
use mathlib.Core.List.{List, []}
use Prim.Native.Nat.{ℕ, ◌+◌, ◌<◌}
use native.Mathlib.Omega.{arith}
use lib.ListN.{get_or}
use Rattle.ranges.specs.Ranges.{joined, sum_over, count_over, any_over, table, in_base}
use Rattle.ranges.proofs.Tables.{get_d_table}
use Rattle.answers.specs.Edition.{today}
use Rattle.answers.specs.Ruling.{lacks_year, level_out, share_of}
use Rattle.answers.specs.Said.{only}
use Rattle.dates.specs.Dates.{leap, leap_day, days_to, month_of, season_of, weekday_of, last_sunday, most_days}
use Rattle.holidays.specs.Holidays.{listed, bad_holidays}
use Rattle.day_kinds.specs.Kinds.{christmas, free, candidate, bridge, kind_by, carries, window_days}
use Rattle.readings.specs.Runs.{change_of, len_by, quarter_in}
use Rattle.editions.specs.Editions.{todays, edition_of}
use Rattle.editions.proofs.Picked.{today_picked}
use Rattle.sheet.specs.Windows.{is_set, set_in, too_full}
use Rattle.encoding.specs.Bytes.{two_at, other_mark}
use Rattle.sheet.specs.Bytes.{windows_in, sheet_in}
use Rattle.sheet.specs.Answers.{read_answer}
use Rattle.year_figures.specs.Counts.{set_on}
use Rattle.demands.specs.Cases.{example_sheet}

-- the example's sheet
unfoldable pub example : List ℕ
example = example_sheet

pub example_read : read_answer today example ≡ only 0
unfolding example read_answer other_mark two_at lacks_year level_out too_full set_in windows_in table in_base any_over count_over sum_over joined
example_read = refl

pub example_year : (sheet_in example).year ≡ 2025
unfolding example two_at in_base joined
example_year = refl

-- under today's list 2025 has today's edition, and so has the example's year
pub today_2025 : edition_of todays 2025 ≡ today
today_2025 = today_picked 2025 (record { allowed = record { from = omega arith; to = omega arith }; own = record { from = omega arith; to = omega arith } })

pub example_edition : edition_of todays (sheet_in example).year ≡ today
example_edition = ap (edition_of todays) example_year ∙ today_2025

pub example_share : share_of today (sheet_in example).level ≡ 20
unfolding example share_of
example_share = refl

-- with no holidays 1 January 2025, day 1, carries no windows and 2 January does; its quarter 72, from 0, is one.
-- (`set_on` counts days from 0.)
pub new_year : carries 2025 [] 1 ≡ false
unfolding leap leap_day days_to weekday_of listed christmas free candidate bridge kind_by any_over sum_over joined
new_year = refl

pub day_two : carries 2025 [] 2 ≡ true
unfolding leap leap_day days_to weekday_of listed christmas free candidate bridge kind_by any_over sum_over joined
day_two = refl

pub set_there : set_on 2025 (windows_in example) 1 72 ≡ true
unfolding example set_on is_set season_of month_of days_to leap_day leap quarter_in len_by change_of last_sunday
    weekday_of windows_in table count_over sum_over joined
set_there = refl

pub no_holidays : bad_holidays (sheet_in example).year [] ≡ false
unfolding bad_holidays any_over joined
no_holidays = refl

-- whether a day carries windows, by the array of the year's days, from 0, and by the calendar, from 1
pub carrying : (d : ℕ) → d < most_days → get_or (window_days (sheet_in example).year []) d false ≡ carries 2025 [] (d + 1)
unfolding window_days
carrying d l = rw example_year (get_d_table (λ j. carries 2025 [] (j + 1)) most_days d false l)
