-- `charges::Priced::reduced` meets its contract: the charge for the in-window peak, in the row of the hours of use and
-- the option.
-- Assumes nothing.
use mathlib.Core.Path.{◌∙◌}
use Rattle.tariff.specs.Charges.{reduced}
use Rattle.charges.proofs.Priced.reduced.Goals as goal

pub returns : goal.returns
unfolding reduced
returns c = c.charge_for.ensures ∙ rw (c.row-row.ensures.0, c.few_hours.ensures)
