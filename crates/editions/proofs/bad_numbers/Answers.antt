-- `editions::bad_numbers` meets its contract: the code's orders are the definition's.
-- Assumes nothing.
use Rattle.editions.specs.Loading.{bad_numbers}
use borrow.Author.Rules.{rules}
use Rattle.editions.proofs.bad_numbers.Goals as goal

pub returns : goal.returns
unfolding bad_numbers
returns c = search rules
