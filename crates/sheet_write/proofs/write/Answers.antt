-- `sheet_write::write` meets its contract: it writes by the edition of the sheet's year.
-- Assumes nothing.
use Rattle.sheet_write.proofs.write.Goals as goal

pub returns : goal.returns
returns c = rw c.pick.ensures at c.write_by.ensures
