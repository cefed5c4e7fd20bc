-- The window program: its machine, driven over any bytes, prints what the file's bytes are answered (grid_text,
-- specs/Text).
-- Assumes nothing.
use mathlib.Core.Path.{◌≡◌, refl, sym, ap, ◌∙◌}
use mathlib.Core.Bool.{false}
use mathlib.Core.List.{List, [], ◌∷◌}
use Prim.Native.Nat.{ℕ, zero, suc, ◌+◌, ◌≤◌, ◌<◌}
use native.Mathlib.Decide.{dec_lt}
use native.Mathlib.Omega.{arith}
use borrow.Author.Tests.{eq-eqb, ne_eqb}
use lib.Dec.{ltb, eqb}
use lib.ListN.{length, take, replicate}
use lib.Seq.{take_all}
use Rattle.ranges.specs.Ranges.{number_if}
use Rattle.ranges.proofs.Tests.{Passed}
use Rattle.ranges.proofs.Bools.{clash}
use Rattle.answers.specs.declared.Edition.{Edition}
use Rattle.answers.specs.Ruling.{grid_most, level_out}
use Rattle.editions.specs.declared.Editions.{Editions}
use Rattle.editions.specs.Editions.{edition_of, year_out}
use Rattle.answers.specs.Said.{Said, only}
use Rattle.periods.specs.Period.{period_days}
use Rattle.periods.proofs.Periods.{period_most}
use Rattle.readings.specs.declared.Run.{Run}
use Rattle.readings.specs.declared.Run.TheVariants.{Period}
use Rattle.readings.specs.Runs.{run_days, day_len, day_start}
use Rattle.readings.specs.Legal.{highest_of, bad_in}
use Rattle.readings.specs.Days.{series_answer}
use Rattle.readings.proofs.Runs.{start_none, run_all, period_run}
use Rattle.readings.proofs.Days.{series_legal, next_bad, next_taken}
use Rattle.sheet.specs.Bytes.{sheet_size}
use Rattle.grid_days.specs.declared.Grid.{Grid}
use Rattle.grid.specs.Answers.{grid_open_answer, windows_answer}
use Rattle.grid_days.specs.Days.{open_grid, grid_day_answer, day_grid, grid_close_buffer}
use Rattle.grid.proofs.Answered.{open_done}
use Rattle.grid_days.proofs.Whole.{holding, machine, opens_empty, closes_whole}
use Rattle.fields.specs.Layout.{Layout, start_of, head_size, stops}
use Rattle.fields.specs.Series.{readings_of, series_in, day_size, file_size}
use Rattle.fields.specs.File.{part, driven}
use Rattle.fields.proofs.Bytes.{Same, buffer_same, part_long, part_none, length_readings}
use Rattle.fields.proofs.Header.{field_none, fields_held, field_held}
use Rattle.fields.proofs.Days.{series_long, series_all, days_read}
use Rattle.fields.proofs.Driven.{Stopped, TakesEnd, FileMachine, file_driven}
use Rattle.fields.proofs.Fed.{held_in, LooksBack, FeedsField, feeds_field, held_after, FeedsDay, feeds_takes}
use Rattle.lines.specs.Figures.{refused_line}
use Rattle.fields.specs.declared.Stage.TheVariants.{Going, Refused, Complete}
use Rattle.grid_head.specs.Header.{grid_mark, grid_layout, grid_year, grid_level}
use Rattle.grid_file.specs.Grid.{blank_sheet, with_sheet, whole_grid, grid_answer}
use Rattle.fields.specs.Stages.{stage_of}
use Rattle.grid_file.specs.GridMachine.{GridFile, grid_head, grid_ended, grid_reader, grid_wants, grid_fed, closed_grid}
use Rattle.grid_text.specs.Text.{window_lines, grid_text}
use Rattle.encoding.proofs.Bytes.{two_same}
use Rattle.fields.proofs.Common.{mark_own, version_own, year_own, level_own, year_no, level_no, unrefused}
use Rattle.grid_head.proofs.GridLayout.{grid_count, grid_width, grid_start_law, grid_size, grid_refusal}
use Rattle.fields.proofs.Machine.{wants_field, wants_day, wants_end, fed_none, fed_field, fed_day, fed_end, field_cut, field_refused, field_taken, day_cut, day_refused, day_taken_law, end_left, end_done}
use Rattle.printed_proofs.specs.Printed.{WindowsPrinted}

-- no field's number looks at a byte behind it
looks_back : (es : Editions) (bytes : List ℕ) → LooksBack (grid_layout es) bytes
looks_back es bytes =
    record {
      counts = λ k h b e. ap (ltb k) (grid_count es b ∙ sym (grid_count es bytes));
      widths = λ k h b e. sym (grid_width es b k (omega (arith, grid_count es bytes))) ∙ grid_width es bytes k (omega (arith, grid_count es bytes));
      refusals = λ k h b e. numbers b k (omega (arith, grid_count es bytes)) e;
    }
  where
    numbers : (b : List ℕ) (k : ℕ) → k < 4 → Same (start_of (grid_layout es bytes) (k + 1)) b bytes
        → (grid_layout es b).refusal k ≡ (grid_layout es bytes).refusal k
    numbers b zero h e =
        sym (grid_refusal es b 0 (omega arith))
        ∙ mark_own grid_mark b bytes 0 (λ i l. e (0 + i) (omega (arith, grid_start_law es bytes 1 (omega arith))))
        ∙ grid_refusal es bytes 0 (omega arith)
    numbers b (suc zero) h e =
        sym (grid_refusal es b 1 (omega arith))
        ∙ version_own b bytes 3 (λ i l. e (3 + i) (omega (arith, grid_start_law es bytes 2 (omega arith))))
        ∙ grid_refusal es bytes 1 (omega arith)
    numbers b (suc (suc zero)) h e =
        sym (grid_refusal es b 2 (omega arith))
        ∙ year_own es b bytes 5 (λ i l. e (5 + i) (omega (arith, grid_start_law es bytes 3 (omega arith))))
        ∙ grid_refusal es bytes 2 (omega arith)
    numbers b (suc (suc (suc zero))) h e =
        sym (grid_refusal es b 3 (omega arith))
        ∙ level_own b bytes 7 (λ i l. e (7 + i) (omega (arith, grid_size es bytes)))
        ∙ grid_refusal es bytes 3 (omega arith)
    numbers b (suc (suc (suc (suc k)))) h e = absurd (omega arith)

-- a machine that has ended with a number, and its line
abbrev Ended : Edition → GridFile → Said → Type 0
Ended ed s x = Stopped grid_wants grid_fed grid_text (window_lines ed) s x

line_of_law : (ed : Edition) (n : ℕ) → (n ≡ 0 → ⊥) → refused_line (n ∷ []) ≡ window_lines ed (only n)
unfolding window_lines
line_of_law ed n z = simp (ne_eqb n 0 z)

ended_with : (ed : Edition) (s : GridFile) {t : GridFile} (n : ℕ) → (n ≡ 0 → ⊥) → grid_ended s (Refused n) ≡ t → Ended ed t (only n)
ended_with ed s n z e =
    rw (← e) (record { says = line_of_law ed n z; stays = λ b. sym (fed_none grid_reader (grid_ended s (Refused n)) refl b) })

-- the header
feeds :
    (es : Editions) (ed : Edition) (k : ℕ) (buffer : List ℕ)
    → k < (grid_layout es buffer).count
    → FeedsField grid_wants grid_fed grid_text (window_lines ed) (grid_layout es) (grid_head es) k buffer
feeds es ed k buffer h =
    record {
      size = sym (wants_field grid_reader s refl h);
      cut = λ b c. ended_with ed s 12 (omega arith) (field_cut grid_reader s b c ∙ fed_field grid_reader s refl h b);
      refused = λ b next w e z. ended_with ed s _ z (field_refused grid_reader s b (omega arith) e refl z ∙ fed_field grid_reader s refl h b);
      taken = λ b next w e z. sym (field_taken grid_reader s b (omega arith) e z ∙ fed_field grid_reader s refl h b);
    }
  where
    s : GridFile
    s = grid_head es k buffer

module _ (es : Editions) (bytes : List ℕ) where
  abbrev l : Layout
  l = grid_layout es bytes

  abbrev y : ℕ
  y = grid_year bytes

  abbrev ed : Edition
  ed = edition_of es y

  abbrev level : ℕ
  level = grid_level bytes

  abbrev run : Run
  run = Period y

  abbrev xs : List ℕ
  xs = series_in bytes (head_size l)

  abbrev held : ℕ → List ℕ
  held k = held_in (replicate 8 0) bytes (start_of l k)

  -- the state whose machine of days stands at g
  abbrev inside : Grid → GridFile
  inside g = record { editions = es; field = 4; head = held 4; series = record { grid = g }; stage = Going }

  abbrev in_days : ℕ → GridFile
  in_days d = inside (held_after run (holding ed y level) (head_size l) bytes d)

  -- it stands behind the header
  over : (grid_layout es (held 4)).count ≤ 4
  over = omega (arith, grid_count es (held 4))

  head_size_law : head_size l ≡ 8
  head_size_law = ap (start_of l) (grid_count es bytes) ∙ grid_size es bytes

  -- the number of year and level, by the test that the opening makes
  pub year_tested : number_if (year_out es y) 1 ≡ l.refusal 2
  year_tested = year_no bytes 5 es refl refl ∙ grid_refusal es bytes 2 (omega arith)

  pub level_tested : number_if (level_out level) 2 ≡ l.refusal 3
  level_tested = level_no bytes 7 refl ∙ grid_refusal es bytes 3 (omega arith)

  pub year_legal : l.refusal 2 ≡ 0 → year_out es y ≡ false
  year_legal e = unrefused (year_out es y) 0 (year_tested ∙ e)

  level_legal : l.refusal 3 ≡ 0 → level_out level ≡ false
  level_legal e = unrefused (level_out level) 1 (level_tested ∙ e)

  -- all fields are read: year and level are legal, and the series is opened
  module _ (p : Passed (stops l bytes) 4) where
    passed : (k : ℕ) → k < 4 → l.refusal k ≡ 0
    passed k h = (field_held l bytes k (p.fails k h)).1

    opens : grid_open_answer ed y level ≡ only 0
    opens = sym (open_done ed y level (year_legal (passed 2 (omega arith))) (level_legal (passed 3 (omega arith))))

    same_head : Same 8 (held 4) bytes
    same_head i h = buffer_same (replicate 8 0) bytes (start_of l 4) (fields_held l bytes 4 p) i (omega (arith, grid_size es bytes))

    opened : grid_head es 4 (held 4) ≡ inside (held_after run (holding ed y level) (head_size l) bytes 0)
    opened =
        ap inside
        (ap (λ (k : ℕ). open_grid (edition_of es k) k (grid_level (held 4))) (two_same (held 4) bytes 5 5 (λ i m. same_head (5 + i) (omega arith)))
        ∙ ap (open_grid ed y) (same_head 7 (omega arith))
        ∙ opens_empty ed y level opens
        ∙ ap (λ (n : ℕ). holding ed y level (take n xs) 0) (sym (start_none run)))

  -- a day
  day_whole : (b : List ℕ) (d : ℕ) → length b ≡ day_size run d → readings_of b ≡ readings_of (take (day_size run d) b)
  day_whole b d w = ap readings_of (sym (take_all (day_size run d) b (omega arith)))

  module _ (ys : List ℕ) (d : ℕ) (h : d < run_days run) where
    abbrev t : Grid
    t = holding ed y level ys d

    abbrev s : GridFile
    s = inside t

    more : d < period_days y
    more = omega (arith, period_run y)

    -- a day of the right length that is not taken has a bad reading
    module _ (b : List ℕ) (w : length b ≡ day_size run d) (z : eqb (grid_day_answer t (readings_of b)).number 0 ≡ false) where
      long : length (readings_of b) ≡ day_len run d
      long = omega (arith, length_readings b)

      ends : grid_ended s (stage_of (grid_day_answer t (readings_of b))) ≡ grid_fed s b
      ends = day_refused grid_reader s (readings_of b) b (omega arith) (day_whole b d w) z ∙ fed_day grid_reader s refl over more b

      bad : Ended ed (grid_fed s b) (grid_day_answer t (readings_of b))
      unfolding stage_of window_lines
      bad = go (dec_lt grid_most (highest_of (readings_of b)))
        where
          go : Dec (grid_most < highest_of (readings_of b)) → Ended ed (grid_fed s b) (grid_day_answer t (readings_of b))
          go (yes v) =
              let five = next_bad run grid_most d (readings_of b) h long v refl in
              rw (← ends, ← five) (record { says = refl; stays = λ c. sym (fed_none grid_reader (grid_ended s _) refl c) })
          go (no v) =
              let taken = next_taken run grid_most d (readings_of b) h long (omega arith) in
              absurd (clash (ap (λ (x : Said). eqb x.number 0) (sym taken)) z)

    day_feeds : FeedsDay grid_wants grid_fed grid_text (window_lines ed) run grid_day_answer day_grid inside t d
    day_feeds =
        record {
          size = sym (wants_day grid_reader s refl over more);
          cut = λ b c. ended_with ed s 4 (omega arith) (day_cut grid_reader s b c ∙ fed_day grid_reader s refl over more b);
          refused = bad;
          taken = λ b w e.
              let taken = eq-eqb _ 0 (ap (λ (x : Said). x.number) e) in
              sym (day_taken_law grid_reader s (readings_of b) b (omega arith) (day_whole b d w) taken ∙ fed_day grid_reader s refl over more b);
        }

  -- after the last day
  module _ (p : Passed (stops l bytes) 4) (w : file_size run (head_size l) ≤ length bytes) (c : Passed (bad_in run grid_most xs) (run_days run)) where
    abbrev all : Grid
    all = held_after run (holding ed y level) (head_size l) bytes (run_days run)

    full : period_days y ≤ all.seen
    full = omega (arith, period_run y)

    module _ (e : length bytes ≡ file_size run (head_size l)) where
      legal : only 0 ≡ series_answer run grid_most xs
      legal =
          let r = days_read run (head_size l) bytes grid_most (run_days run) c (omega (arith, run_all run)) in
          series_legal run grid_most xs (series_long run (head_size l) bytes e) (rw (series_all run (head_size l) bytes e) at r.legal)

      all_is : all ≡ holding ed y level xs (period_days y)
      all_is = ap (λ (ys : List ℕ). holding ed y level ys (run_days run)) (series_all run (head_size l) bytes e) ∙ ap (holding ed y level xs) (period_run y)

      closed_is : closed_grid all ≡ whole_grid ed y level xs
      closed_is =
          let c = closes_whole ed y level (opens p) xs blank_sheet legal in
          ap closed_grid all_is
          ∙ ap (λ (x : Said). with_sheet x (grid_close_buffer (holding ed y level xs (period_days y)) blank_sheet)) c.0
          ∙ ap (with_sheet (windows_answer ed y level xs sheet_size)) c.1

    abbrev last : GridFile
    last = inside all

    abbrev rest : List ℕ
    rest = part bytes (file_size run (head_size l)) 1

    ends_complete : (e : length bytes ≡ file_size run (head_size l)) → Ended ed (grid_fed last rest) (whole_grid ed y level xs)
    ends_complete e =
        let ends : grid_ended last Complete ≡ grid_fed last rest =
        end_done grid_reader last rest (part_none bytes (file_size run (head_size l)) 1 (omega arith)) ∙ fed_end grid_reader last refl over full rest in
        rw (← ends) (record { says = ap (window_lines ed) (closed_is e); stays = λ b. sym (fed_none grid_reader (grid_ended last Complete) refl b) })

    takes_end : TakesEnd grid_wants grid_fed grid_text (window_lines ed) bytes run grid_most (head_size l) in_days (whole_grid ed y level xs)
    takes_end =
        record {
          size = sym (wants_end grid_reader last refl over full);
          left = λ o.
              ended_with ed last 4 (omega arith)
              (end_left grid_reader last rest (omega (arith, part_long bytes (file_size run (head_size l)) 1 (omega arith)))
              ∙ fed_end grid_reader last refl over full rest);
          closed = ends_complete;
        }

  as_four : {n : ℕ} → n ≡ 4 → Passed (stops l bytes) n → Passed (stops l bytes) 4
  as_four e p = rw e at p

  takes : FileMachine grid_wants grid_fed grid_text (window_lines ed) l run grid_most (whole_grid ed y level xs) bytes (λ k. grid_head es k (held k)) in_days
  takes =
      record {
        fields = λ k h p.
            feeds_field grid_wants grid_fed grid_text (window_lines ed) (grid_layout es) (grid_head es)
            (replicate 8 0) bytes (looks_back es bytes) k h p (feeds es ed k (held k));
        opened = λ p. ap (λ (k : ℕ). grid_head es k (held k)) (grid_count es bytes) ∙ opened (as_four (grid_count es bytes) p);
        days = λ p d h w c.
            feeds_takes grid_wants grid_fed grid_text (window_lines ed) (machine ed y level) inside (head_size l)
            bytes d w c (day_feeds (take (day_start run d) xs) d h);
        last = λ p w c. takes_end (as_four (grid_count es bytes) p) w c;
      }

-- for every byte list, with turns enough for the header, the days and the end: 4 fields, at most 366 days, and 1
pub windows_printed_law : WindowsPrinted
unfolding grid_answer
windows_printed_law es bytes turns h =
    let l = grid_layout es bytes in
    let y = grid_year bytes in
    let enough : l.count + run_days (Period y) < turns = omega (arith, grid_count es bytes, period_run y, period_most y) in
    ap (λ (k : ℕ). grid_text (driven grid_wants grid_fed turns (grid_head es 0 (held_in (replicate 8 0) bytes k)) bytes)) (sym (field_none l))
    ∙ file_driven (takes es bytes) turns enough
