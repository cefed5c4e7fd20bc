-- The statement program's example (Rule 10.7) from the series: its M, S and H with its place, and so what the decision
-- over the year answers.
-- Assumes nothing.
use mathlib.Core.Path.{◌≡◌, refl, sym, ap, ap₂, ◌∙◌}
use mathlib.Core.Bool.{Bool, true, false, cond}
use mathlib.Core.List.{[]}
use Prim.Native.Nat.{ℕ, ◌<◌}
use native.Mathlib.Omega.{arith}
use lib.ListN.{length}
use Rattle.ranges.specs.Ranges.{joined, sum_over, any_over}
use Rattle.ranges.proofs.Bools.{pair}
use Rattle.answers.specs.Ruling.{day_quarters, customer_most, level_out, share_of}
use Rattle.answers.specs.Said.{only}
use Rattle.answers.specs.Edition.{today}
use Rattle.answers.specs.declared.Edition.{Edition}
use Rattle.editions.specs.Editions.{todays}
use Rattle.sheet.specs.Answers.{read_answer}
use Rattle.dates.specs.Dates.{leap, leap_day, year_days, days_to, weekday_of}
use Rattle.holidays.specs.Holidays.{listed}
use Rattle.day_kinds.specs.Kinds.{christmas, free, candidate, bridge, kind_by, carries}
use Rattle.readings.specs.declared.Run.TheVariants.{Year}
use Rattle.readings.specs.Runs.{run_days, day_len, quarter_of, run_readings, reading}
use Rattle.readings.specs.Days.{series_answer}
use Rattle.readings.proofs.Runs.{usual_len, usual_quarter, run_all, year_run}
use Rattle.readings.proofs.Days.{series_legal}
use Rattle.tariff.specs.declared.Figures.{Figures}
use Rattle.tariff.specs.Prices.{row_out, prices_out}
use Rattle.tariff.specs.Charges.{charge_for, general, reduced, floor_of, charge}
use Rattle.tariff.specs.Decision.{eligible_rules, charge_rules, judge_rules, judge_answer}
use Rattle.figures.specs.Figures.{figures_of}
use Rattle.terms.specs.declared.Terms.{Terms}
use Rattle.terms.specs.Basis.{Basis, basis}
use Rattle.terms.specs.Opening.{customer_open_answer, terms_of}
use Rattle.terms.proofs.Answered.{open_done}
use Rattle.customer.specs.Counts.{counts}
use Rattle.customer.specs.Answers.{judged, figures_under, decide_answer}
use Rattle.customer.proofs.Answered.{whole_judged, decide_whole}
use Rattle.demands.specs.Cases.{prices}
use Rattle.demands.proofs.Example.{example_edition, example, example_read, example_year, no_holidays, carrying, day_two, set_there}
use Rattle.printed_proofs.specs.Examples.{is_at, customer_run, saturday_day, thursday_day, customer_reading, customer_series, example_basis, customer_said}
use Rattle.printed_proofs.proofs.Series.{at_there, at_other, series_long, series_reads}
use Rattle.figures.proofs.TwoReadings.{TwoOthers, two_peak, two_figures}

-- the days of the two readings
saturday_is : saturday_day ≡ 4
unfolding saturday_day days_to leap_day leap sum_over joined
saturday_is = refl

thursday_is : thursday_day ≡ 2
unfolding thursday_day days_to leap_day leap sum_over joined
thursday_is = refl

-- the series is 0 everywhere but there
reads : (d p : ℕ) → d < run_days customer_run → p < day_len customer_run d → reading customer_run customer_series d p ≡ customer_reading d p
unfolding customer_series
reads d p l m = series_reads customer_run customer_reading (run_days customer_run) d p l m

pub customer_long : length customer_series ≡ run_readings customer_run
unfolding customer_series
customer_long = series_long customer_run customer_reading (run_days customer_run) ∙ run_all customer_run

abbrev on_saturday : ℕ → ℕ → Bool
on_saturday d p = is_at customer_run saturday_day 0 d p

abbrev on_thursday : ℕ → ℕ → Bool
on_thursday d p = is_at customer_run thursday_day 72 d p

abbrev value : Bool → Bool → ℕ
value a b = cond a 1000000 (cond b 500000 0)

-- on days that are no Sunday of a clock change position p stands for quarter p
usual_1 : day_len customer_run 1 ≡ day_quarters
usual_1 = usual_len customer_run 1 refl refl

usual_3 : day_len customer_run 3 ≡ day_quarters
usual_3 = usual_len customer_run 3 refl refl

ordered : (e d p q : ℕ) → day_len customer_run e ≡ day_quarters → d ≡ e → quarter_of customer_run d p ≡ q → p ≡ q
ordered e d p q u same is = sym (usual_quarter customer_run e p u) ∙ ap (λ (k : ℕ). quarter_of customer_run k p) (sym same) ∙ is

saturday_else : (d p : ℕ) → (d ≡ 3 → p ≡ 0 → ⊥) → on_saturday d p ≡ false
saturday_else d p other =
    at_other customer_run saturday_day 0 d p (λ a b. let e : d ≡ 3 = omega (arith, saturday_is) in other e (ordered 3 d p 0 usual_3 e b))

thursday_else : (d p : ℕ) → (d ≡ 1 → p ≡ 72 → ⊥) → on_thursday d p ≡ false
thursday_else d p other =
    at_other customer_run thursday_day 72 d p (λ a b. let e : d ≡ 1 = omega (arith, thursday_is) in other e (ordered 1 d p 72 usual_1 e b))

two_others : TwoOthers customer_run customer_series (run_days customer_run) 1 72 500000 3 0 1000000
two_others =
    let days = year_run 2025 in
    record {
      order = omega arith;
      late_in = omega (arith, days);
      at_in = omega (arith, usual_1);
      to_in = omega (arith, usual_3);
      first =
          reads 1 72 (omega (arith, days)) (omega (arith, usual_1))
          ∙ ap₂ value
          (saturday_else 1 72 (λ a b. omega arith))
          (at_there customer_run thursday_day 72 1 72 (sym thursday_is) (usual_quarter customer_run 1 72 usual_1));
      second =
          reads 3 0 (omega (arith, days)) (omega (arith, usual_3))
          ∙ ap (λ (a : Bool). value a (on_thursday 3 0)) (at_there customer_run saturday_day 0 3 0 (sym saturday_is) (usual_quarter customer_run 3 0 usual_3));
      elsewhere = λ d p l m a b. reads d p l m ∙ ap₂ value (saturday_else d p b) (thursday_else d p a);
    }

pub customer_legal : only 0 ≡ series_answer customer_run customer_most customer_series
customer_legal = series_legal customer_run customer_most customer_series customer_long (omega (arith, two_peak two_others))

-- the sheet of case 12, with no holidays and the prices of the cases
prices_in_law : prices_out prices ≡ false
unfolding prices_out row_out
prices_in_law = refl

abbrev given : Basis
given = basis todays example [] prices false

opens : only 0 ≡ customer_open_answer given
opens = open_done given (sym (ap (λ (ed : Edition). read_answer ed example) example_edition ∙ example_read)) no_holidays prices_in_law

abbrev terms : Terms
terms = terms_of given

-- 2 January carries windows, and quarter 72 is one; 4 January carries none
saturday_free : carries 2025 [] 4 ≡ false
unfolding leap leap_day days_to weekday_of listed christmas free candidate bridge kind_by any_over sum_over joined
saturday_free = refl

inside : counts terms 1 72 ≡ true
inside = pair (carrying 1 (omega arith) ∙ day_two) (rw example_year set_there)

outside : counts terms 3 0 ≡ false
outside = rw (carrying 3 (omega arith) ∙ saturday_free) refl

-- so its figures are those that are printed
abbrev figures : Figures
figures = record { peak = 1000000; sum = 1500000; any = true; high = 500000; day = 2; quarter = 72 }

figures_are : figures_under terms customer_series (year_days terms.rates.year) ≡ figures
figures_are =
    ap (λ (y : ℕ). figures_of (Year y) (counts terms) customer_series (year_days y)) example_year
    ∙ ap (figures_of customer_run (counts terms) customer_series) (sym (year_run 2025))
    ∙ two_figures two_others (counts terms) (omega arith) inside outside
    ∙ ap (λ (q : ℕ). record { peak = 1000000; sum = 1500000; any = true; high = 500000; day = 2; quarter = q }) (usual_quarter customer_run 1 72 usual_1)

judged_by : judge_answer today figures terms.rates ≡ customer_said
unfolding example share_of level_out row_out prices_out charge_for general reduced floor_of charge eligible_rules charge_rules judge_rules judge_answer
judged_by = refl

judged_is : judged terms figures ≡ customer_said
judged_is = ap (λ (ed : Edition). judge_answer ed figures terms.rates) example_edition ∙ judged_by

legal : only 0 ≡ series_answer (Year terms.rates.year) customer_most customer_series
legal = rw example_year customer_legal

pub decided : decide_answer example_basis customer_series ≡ customer_said
unfolding example
decided =
    sym (decide_whole given customer_series opens)
    ∙ sym (whole_judged terms customer_series legal)
    ∙ ap (judged terms) figures_are
    ∙ judged_is
