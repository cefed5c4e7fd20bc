-- `editions::bad_edition` meets its contract: what the three tests answer, in a row.
-- Assumes nothing.
use Rattle.editions.specs.Loading.{bad_edition}
use Rattle.editions.proofs.bad_edition.Goals as goal

pub returns : goal.returns
unfolding bad_edition
returns c = rw (c.bad_years.ensures, c.bad_shares.ensures, c.bad_numbers.ensures)
