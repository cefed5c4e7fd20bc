-- `charges::general_charge` meets its contract: 6, or the general charge.
-- Assumes nothing.
use mathlib.Core.Path.{ap, ◌∙◌}
use Rattle.std.proofs.lemmas.Result.{err_from_is_err_and}
use Rattle.tariff.specs.Charges.{general}
use Rattle.tariff.specs.Answers.{said_of_general}
use Rattle.tariff.proofs.Limits.{prices_legal}
use Rattle.tariff.proofs.Answered.{general_out, general_in}
use Rattle.charges.proofs.general_charge.Goals as goal

pub returns-in_err-new : goal.returns-in_err-new
returns-in_err-new c =
    ap said_of_general (err_from_is_err_and _ c.from_residual.ensures.1).1 ∙ general_out _ _ _ c.in_err-new.ensures

pub returns : goal.returns
returns c =
    let known = c.in_ok-new.ensures in
    let legal = rw known.2 at c.in_ok-new.field-0.legal in
    general_in _ _ _ ((prices_legal _).1 legal)
    (c.general.ensures ∙ (λ i. general (known.0 i) (known.1 i) (known.2 i)))
