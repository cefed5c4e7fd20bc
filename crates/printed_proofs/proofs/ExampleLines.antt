-- The window program's example (Rule 10.6), from the bytes of its file: what they are answered, and what the machine
-- that the program drives prints.
-- Assumes nothing.
use mathlib.Core.Path.{◌≡◌, refl, sym, ap, ◌∙◌}
use mathlib.Core.Bool.{Bool, true, false, cond}
use mathlib.Core.List.{List, ◌++◌}
use Prim.Native.Nat.{ℕ, ◌<◌}
use native.Mathlib.Omega.{arith}
use borrow.Author.Tests.{eqb-true}
use lib.Dec.{eqb}
use lib.ListN.{length, get_or, length-append}
use Rattle.ranges.specs.Ranges.{joined, sum_over, count_over, any_over, all_over, first_over, table, in_base}
use Rattle.ranges.proofs.Tests.{all_at}
use Rattle.answers.specs.Ruling.{grid_most, lacks_year, level_out}
use Rattle.answers.specs.Said.{only}
use Rattle.answers.specs.Edition.{today}
use Rattle.editions.specs.Editions.{todays, place_for, edition_of}
use Rattle.readings.specs.declared.Run.TheVariants.{Period}
use Rattle.readings.specs.Runs.{run_days}
use Rattle.readings.specs.Days.{series_answer}
use Rattle.encoding.specs.Bytes.{two_at, other_mark}
use Rattle.sheet.specs.Windows.{is_set, set_in, too_full}
use Rattle.sheet.specs.Bytes.{windows_in}
use Rattle.sheet.specs.Answers.{read_answer, read_sheet}
use Rattle.fields.specs.Layout.{layout_of, start_of, head_size}
use Rattle.fields.specs.Common.{mark_field, version_field, year_field, level_field}
use Rattle.fields.specs.Series.{series_in, file_size}
use Rattle.texts.specs.Text.{text_over}
use Rattle.lines.specs.Figures.{decimal_of, field_of, figures_line}
use Rattle.window_lines.specs.Runs.{head_line, time_of, run_line, run_text, season_text, windows_text}
use Rattle.grid_head.specs.Header.{grid_layout, grid_year, grid_level}
use Rattle.grid_file.specs.Grid.{blank_sheet, whole_grid, grid_answer}
use Rattle.grid_text.specs.Text.{window_lines, windows_printed}
use Rattle.grid_head.proofs.GridLayout.{grid_count, grid_size}
use Rattle.demands.specs.Cases.{example_sheet}
use Rattle.demands.proofs.Example.{today_2025}
use Rattle.printed_proofs.specs.Printed.{grid_driven}
use Rattle.printed_proofs.specs.Examples.{is_at, grid_run, other_day, grid_reading, grid_series, series_bytes, grid_header, grid_bytes, example_windows, Prints}
use Rattle.printed_proofs.proofs.Grid.{windows_printed_law}
use Rattle.printed_proofs.proofs.Series.{series_low}
use Rattle.printed_proofs.proofs.FileBytes.{word_end, bytes_long, readings_back, file_whole}
use Rattle.printed_proofs.proofs.ExampleSheet.{grid_long, grid_legal, sheet_laid}

-- the header, whatever follows it
module _ (rest : List ℕ) where
  abbrev b : List ℕ
  b = grid_header ++ rest

  year_is : grid_year b ≡ 2025
  unfolding two_at in_base joined
  year_is = refl

  level_is : grid_level b ≡ 5
  level_is = refl

  size_is : head_size (grid_layout todays b) ≡ 8
  size_is = ap (start_of (grid_layout todays b)) (grid_count todays b) ∙ grid_size todays b

  taken : (k : ℕ) → k < (grid_layout todays b).count → (grid_layout todays b).refusal k ≡ 0
  unfolding grid_layout layout_of mark_field version_field year_field level_field other_mark two_at in_base lacks_year level_out
      edition_of place_for first_over sum_over any_over all_over joined
  taken k l = eqb-true _ _ (all_at (λ i. eqb ((grid_layout todays b).refusal i) 0) 4 refl k l)

-- the series, read back from its bytes
abbrev readings : List ℕ
readings = series_bytes grid_series

reading_low : (b : Bool) → cond b 2000 1000 < word_end
reading_low true = omega arith
reading_low false = omega arith

low : (i : ℕ) → get_or grid_series i 0 < word_end
unfolding grid_series
low i = series_low grid_run grid_reading word_end (omega arith) (λ d p. reading_low (is_at grid_run other_day 72 d p)) (run_days grid_run) i

series_back : series_in grid_bytes (head_size (grid_layout todays grid_bytes)) ≡ grid_series
unfolding grid_bytes
series_back = ap (series_in grid_bytes) (size_is readings) ∙ readings_back grid_series low

-- what the series is answered whole, and the lines of that
whole_is : whole_grid today 2025 5 grid_series ≡ record { number = 0; figures = example_sheet }
whole_is = let s = sheet_laid blank_sheet (omega arith) in rw (s.accepted, s.laid)

lines_are : window_lines today (record { number = 0; figures = example_sheet }) ≡ example_windows
unfolding window_lines read_sheet read_answer other_mark two_at in_base lacks_year level_out too_full set_in windows_in is_set
    windows_text season_text run_text run_line time_of head_line figures_line field_of decimal_of text_over
    table count_over sum_over any_over first_over joined
lines_are = refl

-- so the file is answered as the series is
file_long : length grid_bytes ≡ file_size (Period (grid_year grid_bytes)) (head_size (grid_layout todays grid_bytes))
unfolding grid_bytes
file_long = rw (year_is readings, size_is readings) (length-append grid_header readings ∙ omega (arith, bytes_long grid_series, grid_long))

legal : only 0 ≡ series_answer (Period (grid_year grid_bytes)) grid_most (series_in grid_bytes (head_size (grid_layout todays grid_bytes)))
unfolding grid_bytes
legal = rw (year_is readings, series_back) grid_legal

answer_is : grid_answer todays grid_bytes ≡ whole_grid today 2025 5 grid_series
unfolding grid_answer grid_bytes
answer_is =
    sym (file_whole (grid_layout todays grid_bytes) grid_bytes (taken readings) (Period (grid_year grid_bytes)) grid_most _ file_long legal)
    ∙ rw (year_is readings, today_2025, series_back) refl

lines_printed : windows_printed todays grid_bytes ≡ example_windows
unfolding grid_bytes
lines_printed = rw (year_is readings, today_2025) (ap (window_lines today) (answer_is ∙ whole_is) ∙ lines_are)

pub windows_example : Prints (windows_printed todays grid_bytes) (grid_driven todays grid_bytes) 371 example_windows
windows_example = record { of_bytes = lines_printed; of_machine = λ turns h. windows_printed_law todays grid_bytes turns h ∙ lines_printed }
