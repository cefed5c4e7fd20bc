-- `dates::is_leap` meets its contract: the code's tests are the definition's.
-- Assumes nothing.
use Rattle.dates.specs.Dates.{leap}
use borrow.Author.Rules.{rules}
use Rattle.dates.proofs.is_leap.Goals as goal

pub returns : goal.returns
unfolding leap
returns c = search rules
