-- `editions::bad_years` meets its contract: the code's orders are the definition's.
-- Assumes nothing.
use Rattle.editions.specs.Loading.{bad_years}
use borrow.Author.Rules.{rules}
use Rattle.editions.proofs.bad_years.Goals as goal

pub returns : goal.returns
unfolding bad_years
returns c = search rules
