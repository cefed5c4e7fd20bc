-- The statement program's example (Rule 10.7), from the bytes of its file: what they are answered, and what the machine
-- that the program drives prints.
-- Assumes nothing.
use mathlib.Core.Path.{◌≡◌, refl, sym, ap, ◌∙◌}
use mathlib.Core.Bool.{Bool, true, false, cond}
use mathlib.Core.List.{List, [], ◌++◌}
use Prim.Native.Nat.{ℕ, ◌+◌, ◌<◌}
use native.Mathlib.Omega.{arith}
use borrow.Author.Tests.{eqb-true}
use lib.Dec.{eqb}
use lib.ListN.{length, get_or, drop, length-append}
use Rattle.ranges.specs.Ranges.{joined, sum_over, count_over, any_over, all_over, first_over, table, in_base}
use Rattle.ranges.proofs.Tests.{all_at}
use Rattle.answers.specs.Ruling.{customer_most, lacks_year, level_out}
use Rattle.answers.specs.Said.{only}
use Rattle.editions.specs.Editions.{todays, place_for, edition_of}
use Rattle.readings.specs.declared.Run.TheVariants.{Year}
use Rattle.readings.specs.Runs.{run_days}
use Rattle.readings.specs.Days.{series_answer}
use Rattle.encoding.specs.Bytes.{two_at, four_at, other_mark}
use Rattle.sheet.specs.Bytes.{set_from}
use Rattle.customer.specs.Answers.{decide_answer}
use Rattle.fields.specs.Layout.{layout_of, head_size}
use Rattle.fields.specs.Common.{mark_field, version_field, year_field, level_field}
use Rattle.fields.specs.Series.{readings_of, series_in, file_size}
use Rattle.texts.specs.Text.{text_over}
use Rattle.lines.specs.Figures.{decimal_of, field_of, figures_line, statement_line}
use Rattle.customer_head.specs.Header.{sheet_part, customer_year, option_of, holidays_of, prices_in, season_field, option_field, count_field, holiday_field, capacity_field, energy_field, customer_layout}
use Rattle.customer_head.proofs.CustomerLayout as Head
use Rattle.customer_file.specs.Customer.{customer_answer}
use Rattle.customer_text.specs.Text.{statement_printed}
use Rattle.demands.specs.Cases.{prices, example_sheet}
use Rattle.printed_proofs.specs.Printed.{customer_driven}
use Rattle.printed_proofs.specs.Examples.{is_at, customer_run, saturday_day, thursday_day, customer_reading, customer_series, four_bytes, series_bytes, customer_header, customer_bytes, example_basis, customer_said, example_statement, Prints}
use Rattle.printed_proofs.proofs.Customer.{statement_printed_law}
use Rattle.printed_proofs.proofs.Series.{series_low}
use Rattle.printed_proofs.proofs.FileBytes.{word_end, bytes_long, readings_back, file_whole}
use Rattle.printed_proofs.proofs.ExampleDecision.{customer_long, customer_legal, decided}

-- the header, whatever follows it
module _ (rest : List ℕ) where
  abbrev b : List ℕ
  b = customer_header ++ rest

  year_is : customer_year b ≡ 2025
  unfolding two_at in_base joined
  year_is = refl

  sheet_is : sheet_part b ≡ example_sheet
  sheet_is = refl

  option_is : option_of b ≡ false
  option_is = refl

  holidays_are : holidays_of b ≡ []
  unfolding table joined
  holidays_are = refl

  prices_are : prices_in b ≡ prices
  unfolding four_bytes four_at in_base table joined
  prices_are = refl

  size_is : head_size (customer_layout todays b) ≡ 79
  size_is = Head.size_is todays b

  rest_is : drop 79 b ≡ rest
  unfolding four_bytes table joined
  rest_is = refl

  header_long : length b ≡ 79 + length rest
  unfolding four_bytes table joined
  header_long = length-append customer_header rest

  taken : (k : ℕ) → k < (customer_layout todays b).count → (customer_layout todays b).refusal k ≡ 0
  unfolding customer_layout layout_of mark_field version_field year_field level_field season_field option_field count_field holiday_field
      capacity_field energy_field four_bytes other_mark two_at four_at in_base set_from lacks_year level_out
      edition_of place_for first_over table count_over sum_over any_over all_over joined
  taken k l = eqb-true _ _ (all_at (λ i. eqb ((customer_layout todays b).refusal i) 0) 16 refl k l)

-- the series, read back from its bytes
abbrev readings : List ℕ
readings = series_bytes customer_series

reading_low : (a b : Bool) → cond a 1000000 (cond b 500000 0) < word_end
reading_low true b = omega arith
reading_low false true = omega arith
reading_low false false = omega arith

low : (i : ℕ) → get_or customer_series i 0 < word_end
unfolding customer_series
low i =
    series_low customer_run customer_reading word_end (omega arith)
    (λ d p. reading_low (is_at customer_run saturday_day 0 d p) (is_at customer_run thursday_day 72 d p))
    (run_days customer_run) i

series_back : series_in customer_bytes (head_size (customer_layout todays customer_bytes)) ≡ customer_series
unfolding customer_bytes
series_back = ap (series_in customer_bytes) (size_is readings) ∙ ap readings_of (rest_is readings) ∙ readings_back customer_series low

-- so the file is answered as the series is
file_long : length customer_bytes ≡ file_size (Year (customer_year customer_bytes)) (head_size (customer_layout todays customer_bytes))
unfolding customer_bytes
file_long = rw (year_is readings, size_is readings) (header_long readings ∙ omega (arith, bytes_long customer_series, customer_long))

legal : only 0 ≡ series_answer (Year (customer_year customer_bytes)) customer_most
    (series_in customer_bytes (head_size (customer_layout todays customer_bytes)))
unfolding customer_bytes
legal = rw (year_is readings, series_back) customer_legal

answer_is : customer_answer todays customer_bytes ≡ decide_answer example_basis customer_series
unfolding customer_answer customer_bytes
answer_is =
    sym (file_whole (customer_layout todays customer_bytes) customer_bytes (taken readings)
    (Year (customer_year customer_bytes)) customer_most _ file_long legal)
    ∙ rw (holidays_are readings, prices_are readings, series_back) refl

line_is : statement_line customer_said ≡ example_statement
unfolding figures_line field_of decimal_of text_over any_over first_over joined
line_is = refl

line_printed : statement_printed todays customer_bytes ≡ example_statement
line_printed = ap statement_line (answer_is ∙ decided) ∙ line_is

pub statement_example : Prints (statement_printed todays customer_bytes) (customer_driven todays customer_bytes) 423 example_statement
statement_example = record { of_bytes = line_printed; of_machine = λ turns h. statement_printed_law todays customer_bytes turns h ∙ line_printed }
