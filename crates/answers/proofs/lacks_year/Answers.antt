-- `answers::lacks_year` meets its contract: the code's two orders are the definition's.
-- Assumes nothing.
use Rattle.answers.specs.Ruling.{lacks_year}
use borrow.Author.Rules.{rules}
use Rattle.answers.proofs.lacks_year.Goals as goal

pub returns : goal.returns
unfolding lacks_year
returns c = search rules
