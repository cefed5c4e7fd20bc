-- `customer_file::stage_of` meets its contract, a law for each return.
-- Assumes nothing.
use mathlib.Core.Path.{sym, ap, ◌∙◌}
use native.Mathlib.Omega.{arith}
use borrow.Author.Tests.{eq-eqb, ne_eqb}
use Rattle.tariff.specs.declared.Decision.{Decision}
use Rattle.tariff.specs.Answers.{said_of}
use Rattle.answer_numbers.specs.declared.Numbers.{Numbers}
use Rattle.fields.specs.declared.Stage.TheVariants.{Refused}
use Rattle.fields.specs.Stages.{stage_of, day_stage}
use Rattle.decision_numbers.proofs.Line.{decision_small}
use Rattle.customer_file.proofs.CustomerCases.{stage_number}
use Rattle.customer_file.proofs.stage_of.Goals as goal

pub overflow_cast-number : goal.overflow_cast-number
overflow_cast-number c =
    let e = ap (λ (f : Numbers). f.number) c.of_decision-number.ensures in
    omega (arith, e, (decision_small c.args.decision).1)

pub returns-then-number-eq0 : goal.returns-then-number-eq0
returns-then-number-eq0 c = let e = ap (λ (f : Numbers). f.number) c.of_decision-number.ensures in rw (eq-eqb _ 0 (sym e ∙ c.if-number-eq0.true))

pub returns-in_default : goal.returns-in_default
returns-in_default c =
    let d = c.args.decision in
    let e = c.of_decision-number.ensures in
    rw (ne_eqb _ 0 (λ z. c.if-number-eq0.false (ap (λ (f : Numbers). f.number) e ∙ z)))
    (ap (λ (f : Numbers). Refused f.number) e ∙ stage_number d c.in_default.not-BadReading)

pub returns : goal.returns
unfolding stage_of
returns c = sym (ap (λ (d : Decision). day_stage (said_of d)) c.in-BadReading.is)
