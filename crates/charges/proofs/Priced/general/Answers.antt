-- `charges::Priced::general` meets its contract: the charge for the annual peak, in the row of the hours of use.
-- Assumes nothing.
use mathlib.Core.Path.{◌∙◌}
use Rattle.tariff.specs.Charges.{general}
use Rattle.charges.proofs.Priced.general.Goals as goal

pub returns : goal.returns
unfolding general
returns c = c.charge_for.ensures ∙ rw (c.row.ensures.0, c.few_hours.ensures)
