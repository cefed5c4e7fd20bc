-- What the statement program prints is what its file's bytes are answered: the machine of a customer file, driven over
-- any bytes, prints the line that customer_text, specs/Text, gives for them.
-- Assumes nothing.
use mathlib.Core.Path.{◌≡◌, refl, sym, ap, ◌∙◌}
use mathlib.Core.Bool.{false}
use mathlib.Core.List.{List}
use Prim.Native.Nat.{ℕ, ◌+◌, ◌≤◌, ◌<◌}
use native.Mathlib.Omega.{arith}
use borrow.Author.Tests.{eq-eqb, lt-ltb, le-ltb, ltb-false}
use lib.ListN.{length, take, drop, replicate, length-append}
use lib.Seq.{take_all, length-take-le}
use Rattle.editions.specs.declared.Editions.{Editions}
use Rattle.ranges.proofs.Tests.{Passed, passed_all}
use Rattle.answers.specs.Ruling.{customer_most}
use Rattle.answers.specs.Said.{Said}
use Rattle.dates.specs.Dates.{year_days}
use Rattle.readings.specs.declared.Run.{Run}
use Rattle.readings.specs.declared.Run.TheVariants.{Year}
use Rattle.readings.specs.Runs.{run_days}
use Rattle.readings.specs.Legal.{bad_in}
use Rattle.readings.proofs.Runs.{start_none, days_most, year_run}
use Rattle.readings.proofs.Legal.{bad_run}
use Rattle.readings.proofs.Days.{series_legal}
use Rattle.terms.specs.declared.Terms.{Terms}
use Rattle.terms.specs.Opening.{terms_of}
use Rattle.customer_days.specs.declared.Customer.{Customer}
use Rattle.customer.specs.Answers.{decide_answer}
use Rattle.customer_days.specs.Days.{fresh_customer, shut_customer, customer_day_answer, day_customer, customer_close_answer}
use Rattle.customer.proofs.Answered.{decide_whole}
use Rattle.customer_days.proofs.Steps.{opened_state}
use Rattle.customer_days.proofs.Whole.{holding, opens_holding, machine, closes_holding}
use Rattle.fields.specs.Layout.{Layout, start_of, head_size, stops}
use Rattle.fields.specs.Series.{readings_of, series_in, day_size, file_size}
use Rattle.fields.specs.File.{file_answer, part, driven}
use Rattle.fields.proofs.Bytes.{part_long, part_none, buffer_same}
use Rattle.fields.proofs.Header.{field_none, fields_held}
use Rattle.fields.proofs.Days.{series_long, series_all}
use Rattle.fields.proofs.Driven.{Stopped, TakesEnd, FileMachine, file_driven}
use Rattle.fields.proofs.Fed.{held_in, FeedsField, head_over, feeds_field, held_after, FeedsDay, feeds_takes}
use Rattle.lines.specs.Figures.{statement_line}
use Rattle.fields.specs.declared.Stage.TheVariants.{Going, Refused, Complete}
use Rattle.fields.specs.Stages.{going, stage_of, said_of_stage}
use Rattle.customer_head.specs.Header.{customer_head_most, customer_layout}
use Rattle.customer_opening.specs.Opening.{basis_in, opened_in}
use Rattle.customer_file.specs.Customer.{customer_answer}
use Rattle.customer_file.specs.CustomerMachine.{CustomerFile, opened_with, customer_head, customer_start, customer_ended, customer_reader, customer_wants, customer_fed, answer_of}
use Rattle.customer_text.specs.Text.{customer_text}
use Rattle.customer_head.proofs.CustomerLayout.{count_few, count_is}
use Rattle.fields.proofs.Machine.{wants_field, wants_day, wants_end, fed_none, fed_field, fed_day, fed_end, field_cut, field_refused, field_taken, day_cut, day_refused, day_taken_law, end_left, end_done}
use Rattle.customer_file.proofs.CustomerCases.{day_cases}
use Rattle.printed_proofs.proofs.CustomerHeader.{looks_back, opened_same}
use Rattle.printed_proofs.proofs.CustomerOpening.{year_is, opens}
use Rattle.printed_proofs.specs.Printed.{StatementPrinted}

abbrev Halted : CustomerFile → Said → Type 0
Halted s x = Stopped customer_wants customer_fed customer_text statement_line s x

-- a machine that has ended stays, and prints its answer
halted : {s : CustomerFile} {x : Said} (t : CustomerFile) → t ≡ s → going t.stage ≡ false → answer_of t ≡ x → Halted s x
halted t e g x = rw (← e) (record { says = ap statement_line x; stays = λ b. sym (fed_none customer_reader t g b) })

-- a day's refusal says what the machine of days answers
abbrev Ends : Said → Said → Type 0
Ends closing x = (going (stage_of x) ≡ false) × (said_of_stage (stage_of x) closing ≡ x)

day_ends : (closing : Said) (c : Customer) (day : List ℕ) → Ends closing (customer_day_answer c day)
unfolding stage_of
day_ends closing = day_cases (Ends closing) (refl, refl) (refl, refl) (λ place. (refl, refl)) (refl, refl)

-- the year is not opened before the header's end
unopened : (es : Editions) (head : List ℕ) (k : ℕ) → k < (customer_layout es head).count → opened_with es shut_customer head k ≡ shut_customer
unfolding opened_with
unopened es head k l = rw (lt-ltb k (customer_layout es head).count l)

open_now : (es : Editions) (head : List ℕ) (k : ℕ) → (customer_layout es head).count ≤ k → opened_with es shut_customer head k ≡ opened_in es head
unfolding opened_with
open_now es head k l = rw (le-ltb k (customer_layout es head).count l)

-- a field
feeds_head :
    (es : Editions) (k : ℕ) (buffer : List ℕ)
    → k < (customer_layout es buffer).count
    → FeedsField customer_wants customer_fed customer_text statement_line (customer_layout es) (customer_head es shut_customer) k buffer
feeds_head es k buffer l =
    record {
      size = sym (wants_field customer_reader s refl l);
      cut = λ b m. halted (customer_ended s (Refused 12)) (field_cut customer_reader s b m ∙ fed_field customer_reader s refl l b) refl refl;
      refused = λ b next m e z.
          halted (customer_ended s (Refused ((customer_layout es next).refusal k)))
          (field_refused customer_reader s b (omega arith) e refl z ∙ fed_field customer_reader s refl l b)
          refl refl;
      taken = λ b next m e z.
          sym (field_taken customer_reader s b (omega arith) e z ∙ fed_field customer_reader s refl l b)
          ∙ ap (λ (c : Customer). customer_head es c (k + 1) next) (unopened es buffer k l);
    }
  where
    s : CustomerFile
    s = customer_head es shut_customer k buffer

module _ (es : Editions) (bytes : List ℕ) where
  abbrev l : Layout
  l = customer_layout es bytes

  abbrev h : ℕ
  h = head_size l

  abbrev blank : List ℕ
  blank = replicate customer_head_most 0

  abbrev held : ℕ → List ℕ
  held k = held_in blank bytes (start_of l k)

  abbrev xs : List ℕ
  xs = series_in bytes h

  abbrev terms : Terms
  terms = terms_of (basis_in es bytes)

  abbrev run : Run
  run = Year terms.rates.year

  abbrev done : Said
  done = decide_answer (basis_in es bytes) xs

  abbrev in_head : ℕ → CustomerFile
  in_head k = customer_head es shut_customer k (held k)

  -- the machine stands behind the header, with a state of the machine of days
  abbrev inside : Customer → CustomerFile
  inside c = record { editions = es; field = l.count; head = held l.count; series = record { customer = c }; stage = Going }

  abbrev in_days : ℕ → CustomerFile
  in_days d = inside (held_after run (holding terms) h bytes d)

  -- before the first byte
  starts : customer_start es ≡ in_head 0
  starts =
      ap (λ (c : Customer). record { editions = es; field = 0; head = blank; series = record { customer = c }; stage = Going })
      (sym (unopened es blank 0 (omega (arith, count_is es blank))))
      ∙ ap (λ (n : ℕ). customer_head es shut_customer 0 (held_in blank bytes n)) (sym (field_none l))

  module _ (passed : Passed (stops l bytes) l.count) where
    over : (customer_layout es (held l.count)).count ≤ l.count
    over =
        head_over customer_wants customer_fed customer_text statement_line (customer_layout es) (customer_head es shut_customer)
        blank bytes (looks_back es bytes) passed

    -- the header's end opens the year
    year_opened : opened_in es bytes ≡ fresh_customer terms
    unfolding opened_in
    year_opened = sym (opened_state (basis_in es bytes) (sym (opens es bytes passed)))

    inside_file : h ≤ length bytes
    inside_file = fields_held l bytes l.count passed

    inside_buffer : h ≤ length (held l.count)
    inside_buffer = omega (arith, length-append (take h bytes) (drop h blank), length-take-le h bytes inside_file)

    opens_days : in_head l.count ≡ in_days 0
    opens_days =
        ap inside
        (open_now es (held l.count) l.count over
        ∙ opened_same es (held l.count) bytes (buffer_same blank bytes h inside_file) inside_buffer inside_file
        ∙ year_opened
        ∙ opens_holding terms
        ∙ ap (λ (n : ℕ). holding terms (take n xs) 0) (sym (start_none run)))

    -- a day
    feeds_day :
        (d : ℕ)
        → d < run_days run
        → FeedsDay customer_wants customer_fed customer_text statement_line run customer_day_answer day_customer inside
        (held_after run (holding terms) h bytes d) d
    feeds_day d m =
        record {
          size = sym (wants_day customer_reader s refl over left);
          cut = λ b o. halted (customer_ended s (Refused 4)) (day_cut customer_reader s b o ∙ fed_day customer_reader s refl over left b) refl refl;
          refused = λ b o z.
              halted (customer_ended s (stage_of (customer_day_answer c (readings_of b))))
              (day_refused customer_reader s (readings_of b) b (omega arith) (all b o) z ∙ fed_day customer_reader s refl over left b)
              (day_ends (customer_close_answer c) c (readings_of b)).0
              (day_ends (customer_close_answer c) c (readings_of b)).1;
          taken = λ b o e.
              let taken = eq-eqb _ 0 (ap (λ (x : Said). x.number) e) in
              sym (day_taken_law customer_reader s (readings_of b) b (omega arith) (all b o) taken ∙ fed_day customer_reader s refl over left b);
        }
      where
        c : Customer
        c = held_after run (holding terms) h bytes d

        s : CustomerFile
        s = inside c

        left : d < year_days terms.rates.year
        left = omega (arith, year_run terms.rates.year)

        all : (b : List ℕ) → length b ≡ day_size run d → readings_of b ≡ readings_of (take (day_size run d) b)
        all b o = ap readings_of (sym (take_all (day_size run d) b (omega arith)))

    -- the end: what closing says is what the whole series is answered
    closes : Passed (bad_in run customer_most xs) (run_days run) → length bytes ≡ file_size run h
        → customer_close_answer (in_days (run_days run)).series.customer ≡ done
    closes c z =
        ap (λ (ys : List ℕ). customer_close_answer (holding terms ys (run_days run))) (series_all run h bytes z)
        ∙ closes_holding terms xs
        (series_legal run customer_most xs (series_long run h bytes z)
        (ltb-false _ _ (sym (bad_run run customer_most xs) ∙ passed_all (bad_in run customer_most xs) (run_days run) c)))
        ∙ decide_whole (basis_in es bytes) xs (sym (opens es bytes passed))

    takes_end :
        Passed (bad_in run customer_most xs) (run_days run)
        → TakesEnd customer_wants customer_fed customer_text statement_line bytes run customer_most h in_days done
    takes_end c =
        record {
          size = sym (wants_end customer_reader s refl over none);
          left = λ o.
              let long = part_long bytes (file_size run h) 1 (omega arith) in
              halted (customer_ended s (Refused 4)) (end_left customer_reader s p (omega arith) ∙ fed_end customer_reader s refl over none p) refl refl;
          closed = λ z.
              let short = part_none bytes (file_size run h) 1 (omega arith) in
              halted (customer_ended s Complete) (end_done customer_reader s p short ∙ fed_end customer_reader s refl over none p) refl (closes c z);
        }
      where
        s : CustomerFile
        s = in_days (run_days run)

        p : List ℕ
        p = part bytes (file_size run h) 1

        none : year_days terms.rates.year ≤ run_days run
        none = omega (arith, year_run terms.rates.year)

  file : FileMachine customer_wants customer_fed customer_text statement_line l run customer_most done bytes in_head in_days
  file =
      record {
        fields = λ k c p.
            feeds_field customer_wants customer_fed customer_text statement_line (customer_layout es) (customer_head es shut_customer)
            blank bytes (looks_back es bytes) k c p (feeds_head es k (held k));
        opened = opens_days;
        days = λ p d m w c. feeds_takes customer_wants customer_fed customer_text statement_line (machine terms) inside h bytes d w c (feeds_day p d m);
        last = λ p w c. takes_end p c;
      }

  answer_is : file_answer l run customer_most done bytes ≡ customer_answer es bytes
  unfolding customer_answer
  answer_is = ap (λ (y : ℕ). file_answer l (Year y) customer_most done bytes) (year_is es bytes)

-- 423 turns are enough for every file: at most 56 fields, 366 days, and one for what comes after them
pub statement_printed_law : StatementPrinted
statement_printed_law es bytes turns t =
    ap (λ (s : CustomerFile). customer_text (driven customer_wants customer_fed turns s bytes)) (starts es bytes)
    ∙ file_driven (file es bytes) turns (omega (arith, count_is es bytes, count_few es bytes, days_most (run es bytes)))
    ∙ ap statement_line (answer_is es bytes)
