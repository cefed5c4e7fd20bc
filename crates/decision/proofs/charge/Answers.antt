-- `decision::charge` meets its contract: 6, else the rules of the second half.
-- Assumes nothing.
use mathlib.Core.Path.{◌≡◌, sym, ap, ◌∙◌}
use mathlib.Core.Bool.{false}
use Rattle.tariff.specs.Prices.{prices_out}
use Rattle.tariff.specs.Charges.{charges_of}
use Rattle.tariff.specs.Answers.{said_of_charges}
use Rattle.tariff.proofs.Limits.{prices_legal}
use Rattle.tariff.proofs.Answered.{charges_six, charges_cents, charge_prices, charge_legal}
use Rattle.decision.proofs.charge.Goals.{In-Ok}
use Rattle.decision.proofs.charge.Goals as goal

-- what is known of the charges
cents_at :
    (e : In-Ok)
    → let a = e.args in
    (prices_out a.rates.prices ≡ false) × (e.in-Ok.both ≡ charges_of a.edition a.figures a.rates)
cents_at e = charges_cents _ _ _ (ap said_of_charges (sym e.in-Ok.is) ∙ e.both_charges.ensures)

pub returns-in_default : goal.returns-in_default
returns-in_default c = charge_prices _ _ _ (charges_six _ _ _ (ap said_of_charges (sym c.in_default.is) ∙ c.both_charges.ensures))

pub returns : goal.returns
returns c =
    let known = cents_at (goal.at.returns c).In-Ok in
    c.charge_rules.ensures _ known.1 ∙ charge_legal _ _ _ ((prices_legal _).0 known.0)
