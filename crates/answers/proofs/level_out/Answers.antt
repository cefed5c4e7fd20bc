-- `answers::level_out` meets its contract: the code's two orders are the definition's.
-- Assumes nothing.
use Rattle.answers.specs.Ruling.{level_out}
use borrow.Author.Rules.{rules}
use Rattle.answers.proofs.level_out.Goals as goal

pub returns : goal.returns
unfolding level_out
returns c = search rules
