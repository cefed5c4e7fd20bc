-- `decision::judge` meets its contract: the two halves in a row. What the first half says tells whether it is
-- `Eligible`.
-- Assumes nothing.
use mathlib.Core.Path.{◌≡◌, sym, ap, ◌∙◌}
use mathlib.Core.Bool.{false}
use native.Mathlib.Omega.{arith}
use Rattle.tariff.specs.declared.TwoCharges.{TwoCharges}
use Rattle.tariff.specs.declared.Decision.TheVariants.{Eligible}
use Rattle.tariff.specs.Prices.{prices_out}
use Rattle.tariff.specs.Charges.{charges_of}
use Rattle.tariff.specs.Answers.{said_of, said_of_charges}
use Rattle.tariff.specs.Decision.{eligible_answer}
use Rattle.tariff.proofs.Limits.{prices_legal, rates_legal}
use Rattle.tariff.proofs.Answered.{number_is, charges_six, charges_cents, eligible_level, eligible_prices, eligible_legal, charge_legal, judge_first, judge_second}
use Rattle.tariff.proofs.Exactly.{eligible_zero}
use Rattle.tariff.proofs.Only.{decision_only}
use Rattle.decision.proofs.judge.Goals.{After-eligible_rules-first, In-Ok}
use Rattle.decision.proofs.judge.Goals as goal

-- what is known of the charges
cents_at :
    (e : In-Ok)
    → let a = e.args in
    (prices_out a.rates.prices ≡ false) × (e.in-Ok.both ≡ charges_of a.edition a.figures a.rates)
cents_at e = charges_cents _ _ _ (ap said_of_charges (sym e.in-Ok.is) ∙ e.both_charges.ensures)

-- what the first half says
first_at :
    (c : After-eligible_rules-first)
    → let a = c.args in
    said_of c.eligible_rules-first.result ≡ eligible_answer a.edition a.figures a.rates
first_at c =
    let known = charges_cents _ _ _ (ap said_of_charges (sym c.in-Ok.is) ∙ c.both_charges.ensures) in
    c.eligible_rules-first.ensures _ c.in-Some.ensures.1 (ap (λ (b : TwoCharges). b.general) known.1)
    ∙ eligible_legal _ _ _ (rates_legal c.in-Some.ensures.0 known.0)

pub returns-in_default : goal.returns-in_default
returns-in_default c = judge_first _ _ _ (eligible_level _ _ _ c.in_default.ensures) (omega arith)

pub returns-in_default-both_charges : goal.returns-in_default-both_charges
returns-in_default-both_charges c =
    let six = charges_six _ _ _ (ap said_of_charges (sym c.in_default-both_charges.is) ∙ c.both_charges.ensures) in
    judge_first _ _ _ (eligible_prices _ _ _ c.in-Some.ensures.0 six) (omega arith)

pub returns-in-Eligible : goal.returns-in-Eligible
returns-in-Eligible c =
    let w = goal.at.returns-in-Eligible c in
    let known = cents_at w.In-Ok in
    let z = number_is (sym (first_at w.After-eligible_rules-first) ∙ ap said_of c.in-Eligible.is) in
    judge_second _ _ _ z (c.charge_rules.ensures _ known.1 ∙ charge_legal _ _ _ ((prices_legal _).0 known.0))

pub returns : goal.returns
returns c =
    let said = first_at (goal.at.returns c).After-eligible_rules-first in
    judge_first _ _ _ said (λ z.
    let same : c.eligible_rules-first.result ≡ Eligible = decision_only said (eligible_zero _ _ _ (sym (number_is said) ∙ z)) in
    c.in_default-first.not-Eligible same)
