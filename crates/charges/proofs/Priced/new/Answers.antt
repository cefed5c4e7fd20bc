-- `charges::Priced::new` meets its contract: prices that pass the test are legal.
-- Assumes nothing.
use mathlib.Core.Path.{sym, ◌∙◌}
use Rattle.tariff.proofs.Limits.{prices_legal}
use Rattle.charges.proofs.Priced.new.Goals as goal

pub invariant_of-result : goal.invariant_of-result
invariant_of-result c = record { legal = (prices_legal _).0 (sym c.prices_out.ensures ∙ c.if-prices_out.false) }
