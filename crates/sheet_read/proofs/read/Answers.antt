-- `sheet_read::read` meets its contract: it reads by the edition of the sheet's year, which stands in its bytes.
-- Assumes nothing.
use Rattle.sheet_read.proofs.read.Goals as goal

pub returns : goal.returns
returns c = rw (c.pick.ensures, c.two_at.ensures) at c.read_by.ensures
