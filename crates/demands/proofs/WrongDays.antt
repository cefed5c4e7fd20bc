-- Wrong ways to take in days, which a module that meets the demands does not have: on series that differ in the last
-- reading alone the whole calls answer differently; and a day taken twice shows in S.
-- Assumes nothing.
use mathlib.Core.Path.{◌≡◌, refl, ap, ◌∙◌}
use mathlib.Core.List.{List, []}
use Prim.Native.Nat.{ℕ, zero, suc, ◌+◌, ◌*◌, ◌≤◌, ◌<◌}
use native.Mathlib.Omega.{arith}
use lib.ListN.{length, get_or, length-replicate}
use Rattle.ranges.specs.Ranges.{sum_over}
use Rattle.ranges.proofs.Sums.{sum_none, sum_suc, sum_above, sum_cong}
use Rattle.answers.specs.Ruling.{grid_most, customer_most}
use Rattle.answers.specs.Said.{Said, only}
use Rattle.editions.specs.declared.Editions.{Editions}
use Rattle.editions.specs.Editions.{edition_of}
use Rattle.periods.proofs.Periods.{period_days_law}
use Rattle.readings.specs.declared.Run.{Run}
use Rattle.readings.specs.declared.Run.TheVariants.{Period}
use Rattle.readings.specs.Runs.{run_days, day_len, reading}
use Rattle.readings.specs.Part.{run_part}
use Rattle.readings.specs.Days.{days_of, AsWhole}
use Rattle.readings.proofs.Runs.{len_some, run_held, period_run, year_run}
use Rattle.readings.proofs.Part.{Held, length_part, part_at}
use Rattle.readings.proofs.Given.{days_more}
use Rattle.sheet.specs.Bytes.{sheet_size}
use Rattle.grid.specs.Rows.{OpenRow, Complete, period_peak}
use Rattle.grid.specs.Rows.OpenRow.{one, two, zero}
use Rattle.grid.specs.Rows.WindowsRow.{seven, zero}
use Rattle.tariff.proofs.Answered.{number_is}
use Rattle.figures.specs.Figures.{sum_of, figures_of}
use Rattle.terms.specs.Basis.{Basis, basis_year}
use Rattle.terms.specs.Opening.{customer_open_answer}
use Rattle.customer_days.specs.declared.Customer.{Customer}
use Rattle.customer.specs.Demand.{basis_run, LegalYear}
use Rattle.demands.specs.Module.{Module, customer_after}
use Rattle.demands.specs.Refusals.{zero_alone}
use Rattle.demands.specs.Demands.{Demands}
use Rattle.demands.specs.Fair.Given.{whole}
use Rattle.demands.specs.Wrong.{WrongDays, DayTwice, sum_said}
use Rattle.demands.proofs.Carried.{carried, said_is}
use Rattle.demands.proofs.Answers.{exactly_when}
use Rattle.demands.proofs.Same.{peak_said, column_said, sum_said_law, peak_said_law}
use Rattle.demands.proofs.Series.{start_at}
use Rattle.demands.proofs.Ends.{ends, ends_legal, ends_peak, same_whole}
use Rattle.demands.proofs.WrongWindows.{blank_buffer}
use Rattle.demands.proofs.WrongYears.{priced_basis, xs, legal, opened, some_days}

module _ (m : Module) (d : Demands m) where
  -- the grid, in any year and at any level
  module _ (es : Editions) (y level : ℕ) (o : m.grid_open es y level ≡ only 0) where
    abbrev period : Run
    period = Period y

    many : 1 < run_days period
    many = omega (arith, period_run y, period_days_law y _ _ refl refl)

    complete : {n : ℕ} → OpenRow (edition_of es y) y level n → n ≡ 0 → (v : ℕ) → Complete (edition_of es y) y level (ends period many v) (length blank_buffer)
    complete (one a) e v = absurd (omega arith)
    complete (two a b) e v = absurd (omega arith)
    complete (zero a b) e v =
        record {
          enough = omega (arith, length-replicate {A = ℕ} sheet_size 0);
          legal_year = a;
          legal_level = b;
          long = (ends_legal period many v v (omega arith)).long;
        }

    all_there : (v : ℕ) → Complete (edition_of es y) y level (ends period many v) (length blank_buffer)
    all_there = complete ((d.exactly_when.grid_open_law es y level 0).0 (number_is o)) refl

    peak : (v : ℕ) → period_peak y (ends period many v) ≡ v
    peak v = rw (← period_run y) (ends_peak period many v)

    none : (m.windows es y level (ends period many 0) (length blank_buffer)).number ≡ 7
    none = (d.exactly_when.windows es y level (ends period many 0) blank_buffer 7).1 (seven (all_there 0) (peak 0))

    some : (m.windows es y level (ends period many 1) (length blank_buffer)).number ≡ 0
    some =
        (d.exactly_when.windows es y level (ends period many 1) blank_buffer 0).1
        (zero (all_there 1) (ends_legal period many 1 grid_most (omega arith)).legal (omega (arith, peak 1)))

    pub wrong_grid_days : WrongDays period grid_most m.grid_next (m.grid_opened es y level) → ⊥
    wrong_grid_days wrong =
        let same = same_whole period many grid_most (omega arith) (d.days_as_whole.grid es y level blank_buffer o) wrong in
        omega (arith, none, some, ap (λ (r : Said × List ℕ). r.0.number) same)

  -- a customer, on any basis
  module _ (k : Basis) (o : m.customer_open k ≡ only 0) where
    abbrev year : Run
    year = basis_run k

    year_many : 1 < run_days year
    year_many = omega (arith, year_run (basis_year k))

    opens : customer_open_answer k ≡ only 0
    opens =
        let zero = (d.exactly_when.customer_open_law k 0).0 (number_is o) in
        said_is (customer_open_answer k) (zero_alone []) 0 (carried.customer_open_law k) ((exactly_when.customer_open_law k 0).1 zero)

    ends_year : (v : ℕ) → v ≤ customer_most → LegalYear k (ends year year_many v)
    ends_year v l = record { opens = opens; series = ends_legal year year_many v customer_most l }

    said : (v : ℕ) → v ≤ customer_most → peak_said (m.decide k (ends year year_many v)) ≡ v
    unfolding figures_of
    said v l = peak_said_law m d k (ends year year_many v) (ends_year v l) ∙ rw (← year_run (basis_year k)) (ends_peak year year_many v)

    pub wrong_customer_days : WrongDays year customer_most m.customer_next (m.customer_opened k) → ⊥
    wrong_customer_days wrong =
        let same = same_whole year year_many customer_most (omega arith) (d.days_as_whole.customer k o) wrong in
        omega (arith, said 0 (omega arith), said 1 (omega arith), ap peak_said same)

-- a day taken twice, in the year that is accepted
module _ (m : Module) (d : Demands m) (twice : DayTwice m) where
  abbrev k : Basis
  k = priced_basis 100

  abbrev series : List ℕ
  series = xs 100 (omega arith) (omega arith)

  lawful : LegalYear k series
  lawful = legal 100 (omega arith) (omega arith)

  abbrev run : Run
  run = basis_run k

  as_whole : AsWhole run customer_most m.customer_day m.customer_next (m.customer_opened k) m.customer_close (m.decide k)
  as_whole = d.days_as_whole.customer k (opened 100 (omega arith) (omega arith) m d)

  abbrev at : ℕ → Customer
  at n = customer_after m k (days_of run series n)

  -- the sum of a day that is handed out
  day_sum :
      (n : ℕ)
      → n < run_days run
      → sum_over (λ p. get_or (run_part run series (n + 1)) p 0) (length (run_part run series (n + 1))) ≡ sum_over (reading run series n) (day_len run n)
  day_sum n h =
      let inside : Held run series n = record {
        on = h;
        inside = omega (arith, run_held run n h, lawful.series.long);
      } in
      rw (length_part run series n inside) (sum_cong _ _ (day_len run n) (λ p l. part_at run series n inside p l))

  grows : (n : ℕ) → n ≤ run_days run → 2 * sum_of run series n ≤ (at n).figures.sum
  unfolding sum_of
  grows zero h = omega (arith, sum_none (λ e. sum_over (reading run series e) (day_len run e)))
  grows (suc n) h =
      let more : n + 1 ≡ suc n = omega arith in
      let before = grows n (omega arith) in
      let step = ap (λ (c : Customer). c.figures.sum) (days_more m.customer_next run (m.customer_opened k) series n) in
      let added = twice (at n) (run_part run series (n + 1)) (as_whole.every_day series lawful.series n (omega arith)) in
      let moved : (at (n + 1)).figures.sum ≡ (at (suc n)).figures.sum = ap (λ (j : ℕ). (at j).figures.sum) more in
      omega (arith, before, step, added, moved, day_sum n (omega arith), sum_suc (λ e. sum_over (reading run series e) (day_len run e)) n)

  -- the year has readings
  some_sum : 0 < sum_of run series (run_days run)
  unfolding sum_of
  some_sum =
      omega (
        arith,
        start_at run 1000000,
        sum_above (reading run series 0) (day_len run 0) 0 (len_some run 0),
        sum_above (λ e. sum_over (reading run series e) (day_len run e)) (run_days run) 0 (some_days 100 (omega arith) (omega arith)),
      )

  -- closing answers with the state's sum
  closed : m.customer_close (at (run_days run)) ≡ m.decide k series
  closed = as_whole.all_days series lawful.series

  pub day_twice : ⊥
  unfolding figures_of
  day_twice =
      let number = number_is closed in
      let c = at (run_days run) in
      let figures = said_is (m.customer_close c) _ _ (d.carried.customer_close_law c) number in
      let answered = d.fairness.answered k series (m.decide k series) lawful whole in
      let shown = ap sum_said figures ∙ (column_said c.terms.edition c.figures c.terms.rates _ answered).0 in
      omega (
        arith,
        shown,
        ap sum_said closed,
        sum_said_law m d k series lawful,
        ap (sum_of run series) (year_run (basis_year k)),
        grows (run_days run) (omega arith),
        some_sum,
      )
