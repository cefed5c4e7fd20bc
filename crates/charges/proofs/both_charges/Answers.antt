-- `charges::both_charges` meets its contract: 6, or the larger of reduced charge and floor beside the general charge.
-- Assumes nothing.
use mathlib.Core.Path.{ap, ◌∙◌}
use Rattle.std.proofs.lemmas.Result.{err_from_is_err_and}
use Rattle.tariff.specs.Charges.{general, reduced}
use Rattle.tariff.specs.Answers.{said_of_charges}
use Rattle.tariff.proofs.Limits.{prices_legal}
use Rattle.tariff.proofs.Charges.{general_most, charge_of}
use Rattle.tariff.proofs.Answered.{charges_out, charges_in}
use borrow.Author.Rules.{rules}
use Rattle.charges.proofs.both_charges.Goals as goal

pub returns-in_err-priced : goal.returns-in_err-priced
returns-in_err-priced c =
    ap said_of_charges (err_from_is_err_and _ c.from_residual.ensures.1).1 ∙ charges_out _ _ _ c.in_err-priced.ensures

pub with_floor-charge-requires : goal.with_floor-charge-requires
with_floor-charge-requires c =
    rw c.general-general.ensures (general_most _ _ _ c.in_ok-priced.priced.legal (search rules) (search rules))

pub returns : goal.returns
returns c =
    let known = c.in_ok-priced.ensures in
    let a = c.args in
    let general_is = c.general-general.ensures ∙ (λ i. general (known.0 i) (known.1 i) (known.2 i)) in
    let reduced_is = c.reduced.ensures ∙ (λ i. reduced (known.0 i) (known.1 i) (known.2 i)) in
    let legal = rw known.2 at c.in_ok-priced.priced.legal in
    let own = charge_of a.edition a.figures a.rates reduced_is general_is in
    charges_in a.edition a.figures a.rates ((prices_legal _).1 legal)
    (λ i. record { charge = (c.with_floor-charge.ensures ∙ own) i; general = general_is i })
