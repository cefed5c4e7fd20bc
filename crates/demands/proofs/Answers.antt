-- What is answered is what the rules say (specs/Answers), taken from the crates below; and what a reader of the bytes
-- has that an accepted series leaves.
-- Assumes nothing.
use mathlib.Core.Path.{◌≡◌, refl, sym, ap, ◌∙◌}
use mathlib.Core.Bool.{Bool, true, false, cond}
use mathlib.Core.List.{List, []}
use Prim.Native.Nat.{ℕ, ◌+◌, ◌-◌, ◌*◌, ◌/◌, ◌%◌, ◌<◌}
use native.Mathlib.Decide.{ℕ_discrete}
use native.Mathlib.Omega.{arith}
use borrow.Author.Tests.{eq-eqb, ne_eqb}
use lib.Dec.{ltb, eqb}
use lib.ListN.{length, get_or, take, drop}
use Rattle.ranges.specs.Limits.{Within}
use Rattle.ranges.specs.Ranges.{table}
use Rattle.ranges.proofs.Tables.{get_d_table, table_cong}
use Rattle.answers.specs.declared.Edition.{Edition}
use Rattle.editions.specs.Editions.{edition_of}
use Rattle.editions.proofs.Lists.{load_exactly}
use Rattle.answers.specs.Ruling.{day_quarters, grid_most}
use Rattle.answers.specs.Said.{Said, only, or_else}
use Rattle.periods.specs.Period.{period_days}
use Rattle.calendar.proofs.Answers.{exactly}
use Rattle.readings.specs.declared.Run.TheVariants.{Period}
use Rattle.readings.specs.Legal.{highest_of}
use Rattle.readings.specs.Days.{series_answer}
use Rattle.readings.proofs.Days.{next_exactly}
use Rattle.sheet.specs.declared.Sheet.{Sheet}
use Rattle.sheet.specs.Windows.{seasons, window_places, is_set}
use Rattle.sheet.specs.Bytes.{sheet_size}
use Rattle.sheet.specs.Answers.{ReadSaid, read_of, write_answer, written}
use Rattle.sheet.proofs.Windows.{set_at, length_flat}
use Rattle.sheet.proofs.Exactly.{read_exactly, write_exactly}
use Rattle.sheet.proofs.Back.{buffer_read}
use Rattle.sheet_read.specs.Editions.{sheet_edition}
use Rattle.windows.specs.Chosen.{kept}
use Rattle.windows.proofs.Kept.{chosen_at}
use Rattle.grid_curves.specs.Curves.{curve_at, flat_curves}
use Rattle.grid.specs.Answers.{grid_open_answer, curve_of, curves_of, sheet_of, finish_answer, finished, windows_answer, windows_buffer}
use Rattle.grid.specs.Rows.{period_peak}
use Rattle.grid_curves.proofs.Curves.{peak_curves}
use Rattle.grid.proofs.Exactly.{open_exactly, windows_exactly}
use Rattle.grid_days.proofs.Exactly.{close_exactly}
use Rattle.grid_days.proofs.Whole.{days_whole as grid-days, same_place as grid_place}
use Rattle.tariff.proofs.Answered.{number_is}
use Rattle.tariff.proofs.Exactly.{eligible_exactly, charge_exactly, judge_exactly}
use Rattle.terms.proofs.Exactly.{customer_open_exactly}
use Rattle.customer.proofs.Exactly.{decide_exactly}
use Rattle.customer_days.proofs.Exactly.{customer_day_exactly, customer_close_exactly}
use Rattle.customer_days.proofs.Whole.{days_whole as customer_days, same_place as customer_place}
use Rattle.demands.specs.Module.{ours}
use Rattle.demands.specs.Answers.{ExactlyWhen, ToTheQuarterHour, DaysAsWhole}
use Rattle.demands.proofs.Windows.{peak_one, curve_one, kept_plain}
use Rattle.demands.proofs.Sheets.{by_list, handed, rest_stays}

pub exactly_when : ExactlyWhen ours
exactly_when =
    record {
      load = load_exactly;
      calendar = λ es y. exactly (edition_of es y) y;
      read = λ es b. read_exactly (sheet_edition es b) b;
      write = λ es s. write_exactly (edition_of es s.year) s;
      windows = λ es y. windows_exactly (edition_of es y) y;
      grid_open_law = λ es y. open_exactly (edition_of es y) y;
      grid_day_law = λ g day. next_exactly _ _ g.seen day;
      grid_close_law = close_exactly;
      eligible = eligible_exactly;
      charge = charge_exactly;
      judge = judge_exactly;
      decide = decide_exactly;
      customer_open_law = customer_open_exactly;
      customer_day_law = customer_day_exactly;
      customer_close_law = customer_close_exactly;
    }

pub days_as_whole : DaysAsWhole ours
days_as_whole =
    record {
      grid = λ es y level buffer o. grid-days (edition_of es y) y level o buffer;
      grid_place = λ es y level xs buffer d q e. grid_place (edition_of es y) y level xs buffer d q e;
      customer = customer_days;
      customer_place = λ k xs d q o e. customer_place k o xs d q e;
    }

-- where a second answer behind a first is 0, it is the second
second : (a b : Said) → (or_else a b).number ≡ 0 → or_else a b ≡ b
second a b z = go (ℕ_discrete a.number 0)
  where
    go : Dec (a.number ≡ 0) → or_else a b ≡ b
    go (yes e) = rw (eq-eqb _ _ e)
    go (no n) = absurd (n (rw (ne_eqb _ _ n) at z))

otherwise : (t : Bool) (n : ℕ) (a : Said) → (n ≡ 0 → ⊥) → (cond t (only n) a).number ≡ 0 → cond t (only n) a ≡ a
otherwise true n a r z = absurd (r z)
otherwise false n a r z = refl

-- the curve of a season, by the definition and out of the four curves that stand one after the other
abbrev curve_in : ℕ → List ℕ → ℕ → List ℕ
curve_in y xs s = table (curve_at y xs (period_days y) s) day_quarters

curve_is : (y : ℕ) (xs : List ℕ) (s : ℕ) → Within 1 seasons s → get_or (curves_of (flat_curves y xs (period_days y))) (s - 1) [] ≡ curve_in y xs s
unfolding curves_of curve_of flat_curves
curve_is y xs s h =
    get_d_table (curve_of (flat_curves y xs (period_days y))) seasons (s - 1) [] (omega arith)
    ∙ table_cong _ (curve_at y xs (period_days y) s) day_quarters (λ q l.
    let a : (day_quarters * (s - 1) + q) / day_quarters + 1 ≡ s = omega arith in
    let b : (day_quarters * (s - 1) + q) % day_quarters ≡ q = omega arith in
    get_d_table (λ i. curve_at y xs (period_days y) (i / day_quarters + 1) (i % day_quarters)) window_places (day_quarters * (s - 1) + q) 0
    (omega arith) ∙ rw (a, b))

-- an accepted series
module _ (ed : Edition) (y level : ℕ) (xs buffer : List ℕ) (z : (windows_answer ed y level xs (length buffer)).number ≡ 0) where
  abbrev flat : List ℕ
  flat = flat_curves y xs (period_days y)

  abbrev laid : Sheet
  laid = sheet_of ed y level flat

  finish_is : windows_answer ed y level xs (length buffer) ≡ finish_answer ed y level flat (length buffer)
  unfolding windows_answer
  finish_is =
      let a = otherwise (ltb (length buffer) sheet_size) 14 _ (omega arith) z in
      let b = second (grid_open_answer ed y level) _ (sym (number_is a) ∙ z) in
      let c = second (series_answer (Period y) grid_most xs) _ (sym (number_is (a ∙ b)) ∙ z) in
      a ∙ b ∙ c

  write_is : finish_answer ed y level flat (length buffer) ≡ write_answer ed laid (length buffer)
  unfolding finish_answer
  write_is = otherwise (eqb (highest_of flat) 0) 7 _ (omega arith) (sym (number_is finish_is) ∙ z)

  accepts : (write_answer ed laid (length buffer)).number ≡ 0
  accepts = sym (number_is (finish_is ∙ write_is)) ∙ z

  buffer_is : windows_buffer ed y level xs buffer ≡ written ed laid buffer
  unfolding windows_buffer finished
  buffer_is =
      handed (windows_answer ed y level xs (length buffer)) _ _ z
      ∙ handed (finish_answer ed y level flat (length buffer)) _ _ (sym (number_is finish_is) ∙ z)

  reads : read_of ed (take sheet_size (windows_buffer ed y level xs buffer)) ≡ record { answer = only 0; sheet = laid }
  unfolding sheet_of
  reads = ap (λ (b : List ℕ). read_of ed (take sheet_size b)) buffer_is ∙ buffer_read ed laid buffer (length_flat _) accepts

  window_is : (s q : ℕ) → Within 1 seasons s → q < day_quarters → is_set laid.windows s q ≡ kept ed (period_peak y xs) (curve_in y xs s) q
  unfolding sheet_of
  window_is s q h l =
      sym (set_at laid.windows s q h l)
      ∙ chosen_at ed (highest_of flat) (curves_of flat) s q h l
      ∙ ap (λ (m : ℕ). kept ed m (get_or (curves_of flat) (s - 1) []) q) (peak_curves y xs (period_days y))
      ∙ ap (λ (curve : List ℕ). kept ed (period_peak y xs) curve q) (curve_is y xs s h)

pub to_the_quarter_hour : ToTheQuarterHour ours
unfolding sheet_of
to_the_quarter_hour es y level xs buffer z =
    let ed = edition_of es y in
    let r = by_list es (laid ed y level xs buffer z) _ (reads ed y level xs buffer z) in
    record {
      accepted = ap (λ (x : ReadSaid). x.answer) r;
      year_is = ap (λ (x : ReadSaid). x.sheet.year) r;
      level_is = ap (λ (x : ReadSaid). x.sheet.level) r;
      windows_are = λ s q h l peak c i j.
          let shown = ap (λ (x : ReadSaid). is_set x.sheet.windows s q) r ∙ window_is ed y level xs buffer z s q h l in
          rw (shown, ← peak_one y xs peak i)
          (kept_plain ed peak c (curve_in y xs s) (λ p m. curve_one y xs s c j p m
          ∙ sym (get_d_table (curve_at y xs (period_days y) s) day_quarters p 0 m)) q l);
      rest_stays = ap (drop sheet_size) (buffer_is ed y level xs buffer z)
          ∙ rest_stays ed (laid ed y level xs buffer z) buffer (accepts ed y level xs buffer z);
    }
