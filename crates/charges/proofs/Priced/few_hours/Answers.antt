-- `charges::Priced::few_hours` meets its contract: the sum is held against four times the hours times the peak.
-- Assumes nothing.
use Prim.Native.Nat.{◌*◌}
use lib.Dec.{ltb}
use Rattle.charges.proofs.Priced.few_hours.Goals as goal

pub returns : goal.returns
returns c = λ i. ltb c.args.self.figures.sum (4 * c.from-hours.ensures i * c.from.ensures i)
