-- A module that gives one fixed charge or makes up S does not meet the demands: shown by a year that is accepted at
-- every legal capacity price of 100 cent or more, and whose charge goes with the price.
-- Assumes nothing.
use mathlib.Core.Path.{◌≡◌, refl, sym, ◌∙◌, ap}
use mathlib.Core.Bool.{Bool, true, false}
use mathlib.Core.List.{List, []}
use Prim.Native.Nat.{ℕ, ◌*◌, ◌≤◌, ◌<◌}
use native.Mathlib.Decide.{dec_lt}
use native.Mathlib.Omega.{arith}
use Rattle.ranges.proofs.Bools.{clash, both, pair}
use Rattle.ranges.proofs.Tests.{any_at}
use Rattle.answers.specs.declared.Edition.{Edition}
use Rattle.answers.specs.Edition.{today}
use Rattle.answers.specs.Ruling.{capacity_most, customer_most}
use Rattle.answers.specs.Said.{only}
use Rattle.readings.specs.Runs.{run_days, day_len}
use Rattle.readings.proofs.Runs.{len_least, year_run}
use Rattle.readings.proofs.Illegal.{all_legal_in}
use Rattle.editions.specs.Editions.{todays}
use Rattle.sheet.specs.Answers.{read_answer}
use Rattle.sheet.specs.Bytes.{sheet_in}
use Rattle.tariff.specs.declared.Prices.{Prices}
use Rattle.tariff.specs.Prices.{LegalRow}
use Rattle.tariff.specs.Charges.{row_of, charge_for, general, reduced, floor_of, charge}
use Rattle.tariff.specs.Answers.{payable}
use Rattle.tariff.specs.Rows.{JudgeRow}
use Rattle.tariff.specs.Rows.JudgeRow.{zero}
use Rattle.tariff.proofs.Answered.{number_is}
use Rattle.tariff.proofs.Exactly.{judge_exactly}
use Rattle.tariff.proofs.Limits.{prices_legal}
use Rattle.terms.specs.declared.Terms.{Terms}
use Rattle.terms.specs.Basis.{Basis, basis, basis_rates, basis_edition}
use Rattle.terms.specs.Opening.{terms_of, customer_open_answer}
use Rattle.terms.proofs.Answered.{open_done}
use Rattle.customer.specs.Counts.{counts}
use Rattle.customer.specs.Answers.{decide_answer}
use Rattle.customer.specs.Demand.{basis_run, basis_days, LegalYear, basis_figures}
use Rattle.figures.specs.Figures.{any_on, figures_of, FirstPlace}
use Rattle.figures.proofs.Peak.{first_place}
use Rattle.demands.specs.Cases.{priced}
use Rattle.demands.specs.Module.{Module}
use Rattle.demands.specs.Refusals.{zero_alone}
use Rattle.demands.specs.Fair.Given.{whole}
use Rattle.demands.specs.Demands.{Demands}
use Rattle.demands.specs.Wrong.{OneCharge, MadeUpSum}
use Rattle.demands.proofs.Example.{example_edition, example, example_read, example_year, example_share, no_holidays, carrying, new_year, day_two, set_there}
use Rattle.demands.proofs.Carried.{said_is}
use Rattle.demands.proofs.Fair.{legal_basis, given_one}
use Rattle.demands.proofs.Answers.{exactly_when}
use Rattle.demands.proofs.Same.{sum_said_law}
use Rattle.demands.proofs.Series.{at_start, start_later, start_long, start_peak}

-- a price for capacity alone, the same in both rows
abbrev pub capacity_only : ℕ → Prices
capacity_only price = record { few = priced price 0; many = priced price 0 }

abbrev pub priced_basis : ℕ → Basis
priced_basis price = basis todays example [] (capacity_only price) false

module _ (price : ℕ) (least : 100 ≤ price) (most : price ≤ capacity_most) where
  abbrev k : Basis
  k = priced_basis price

  abbrev terms : Terms
  terms = terms_of k

  pub opens : customer_open_answer k ≡ only 0
  opens =
      let row : LegalRow (priced price 0) = record { capacity = most; energy = omega arith } in
      let read = sym (ap (λ (ed : Edition). read_answer ed example) example_edition ∙ example_read) in
      sym (open_done k read no_holidays ((prices_legal (capacity_only price)).1 (record { few = row; many = row })))

  pub some_days : 0 < run_days (basis_run k)
  some_days = omega (arith, year_run (sheet_in example).year)

  -- one reading of 1,000 kW, on 1 January
  abbrev pub xs : List ℕ
  xs = at_start (basis_run k) 1000000

  pub legal : LegalYear k xs
  legal =
      record {
        opens = opens;
        series =
            record {
              long = start_long (basis_run k) 1000000 some_days;
              legal = (all_legal_in (basis_run k) customer_most xs).0 (omega (arith, start_peak (basis_run k) 1000000 some_days));
            };
      }

  not_first : (p : ℕ) → counts terms 0 p ≡ true → ⊥
  not_first p t = clash (both _ _ t).0 (carrying 0 (omega arith) ∙ new_year)

  there : counts terms 1 72 ≡ true
  there = pair (carrying 1 (omega arith) ∙ day_two) (rw example_year set_there)

  any_there : (basis_figures k xs).any ≡ true
  unfolding figures_of any_on
  any_there =
      any_at _ (basis_days k) 1 (omega arith) (any_at (counts terms 1) (day_len (basis_run k) 1) 72 (omega (arith, len_least (basis_run k) 1)) there)

  pub peak_is : (basis_figures k xs).peak ≡ 1000000
  unfolding figures_of
  peak_is = rw (← year_run (sheet_in example).year) (start_peak (basis_run k) 1000000 some_days)

  pub high_is : (basis_figures k xs).high ≡ 0
  high_is = go (first_place (basis_run k) (counts terms) xs (basis_days k) any_there)
    where
      go : FirstPlace (basis_run k) (counts terms) xs (basis_days k) (basis_figures k xs) → (basis_figures k xs).high ≡ 0
      go f = at (dec_lt 0 f.on)
        where
          at : Dec (0 < f.on) → (basis_figures k xs).high ≡ 0
          at (yes l) = sym f.has ∙ start_later (basis_run k) 1000000 f.on f.at l
          at (no l) =
              let e : f.on ≡ 0 = omega arith in
              absurd (not_first f.at (rw e at f.counts_there))

  -- its charges: 1,000 kW cost g, nothing in a window costs nothing, so c is the floor
  row_is : (few : Bool) → row_of (capacity_only price) few ≡ priced price 0
  row_is true = refl
  row_is false = refl

  pub general_is : (ed : Edition) → general ed (basis_figures k xs) (basis_rates k) ≡ 1000 * price
  unfolding general charge_for
  general_is ed = rw (row_is _, peak_is) (omega arith)

  charge_is : charge today (basis_figures k xs) (basis_rates k) ≡ 200 * price
  unfolding charge reduced floor_of charge_for
  charge_is = rw (general_is today, row_is _, high_is) (omega arith)

  pub row : JudgeRow (basis_edition k) (basis_figures k xs) (basis_rates k) 0
  row =
      rw example_edition (zero (legal_basis k xs legal) (record { some = any_there; share = rw (example_share, peak_is, high_is) (omega arith) })
      (omega (arith, peak_is, high_is)) (omega (arith, general_is today, charge_is)))

  ours_accepted : (decide_answer k xs).number ≡ 0
  ours_accepted = number_is (given_one k legal whole) ∙ (judge_exactly (basis_edition k) (basis_figures k xs) (basis_rates k) 0).1 row

  -- what a module that meets the demands answers
  module _ (m : Module) (d : Demands m) where
    pub opened : m.customer_open k ≡ only 0
    opened =
        said_is (m.customer_open k) (zero_alone []) 0 (d.carried.customer_open_law k)
        ((d.exactly_when.customer_open_law k 0).1 ((exactly_when.customer_open_law k 0).0 (number_is opens)))

    pub accepted : (m.decide k xs).number ≡ 0
    accepted = (d.exactly_when.decide k xs 0).1 ((exactly_when.decide k xs 0).0 ours_accepted)

    pub pays : payable (m.decide k xs) ≡ 200 * price
    pays = d.fairness.pays k xs (m.decide k xs) legal whole ∙ rw (accepted, example_edition) charge_is

-- any module that meets the demands
module _ (m : Module) (d : Demands m) where
  pub one_charge : OneCharge m → ⊥
  one_charge o = omega (arith, at 100 (omega arith) (omega arith), at 200 (omega arith) (omega arith))
    where
      at : (price : ℕ) → 100 ≤ price → price ≤ capacity_most → 200 * price ≡ o.charge
      at price least most = sym (pays price least most m d) ∙ o.fixed (priced_basis price) (xs price least most) refl (accepted price least most m d)

  pub made_up_sum : MadeUpSum m → ⊥
  unfolding figures_of
  made_up_sum u = u.made_up (sum_said_law m d u.basis u.series u.legal)
