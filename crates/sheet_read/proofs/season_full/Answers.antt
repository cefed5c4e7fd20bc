-- `sheet_read::season_full` meets its contract: the quarters that are set are held against the edition's limit.
-- Assumes nothing.
use lib.Dec.{ltb}
use Rattle.sheet_read.proofs.season_full.Goals as goal

pub returns : goal.returns
returns c = λ i. ltb (c.from.ensures i) (c.set_from.ensures i)
