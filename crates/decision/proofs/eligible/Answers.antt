-- `decision::eligible` meets its contract: 2, 6, else the rules of the first half.
-- Assumes nothing.
use mathlib.Core.Path.{◌≡◌, sym, ap, ◌∙◌}
use mathlib.Core.Bool.{false}
use Rattle.tariff.specs.Prices.{prices_out}
use Rattle.tariff.specs.Charges.{general}
use Rattle.tariff.specs.Answers.{said_of_general}
use Rattle.tariff.proofs.Limits.{rates_legal}
use Rattle.tariff.proofs.Answered.{general_six, general_cents, eligible_level, eligible_prices, eligible_legal}
use Rattle.decision.proofs.eligible.Goals.{In-Ok}
use Rattle.decision.proofs.eligible.Goals as goal

-- what is known of the charge
cents_at :
    (e : In-Ok)
    → let a = e.args in
    (prices_out a.rates.prices ≡ false) × (e.in-Ok.g ≡ general a.edition a.figures a.rates)
cents_at e = general_cents _ _ _ (ap said_of_general (sym e.in-Ok.is) ∙ e.general_charge.ensures)

pub returns-in_default : goal.returns-in_default
returns-in_default c = eligible_level _ _ _ c.in_default.ensures

pub returns-in_default-general_charge : goal.returns-in_default-general_charge
returns-in_default-general_charge c =
    let six = general_six _ _ _ (ap said_of_general (sym c.in_default-general_charge.is) ∙ c.general_charge.ensures) in
    eligible_prices _ _ _ c.in-Some.ensures.0 six

pub returns : goal.returns
returns c =
    let known = cents_at (goal.at.returns c).In-Ok in
    c.eligible_rules.ensures _ c.in-Some.ensures.1 known.1
    ∙ eligible_legal _ _ _ (rates_legal c.in-Some.ensures.0 known.0)
