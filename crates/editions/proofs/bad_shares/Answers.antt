-- `editions::bad_shares` meets its contract: the test of each share, in a row.
-- Assumes nothing.
use mathlib.Core.Path.{◌≡◌, ap, ◌∙◌}
use borrow.Author.Rules.{rules}
use lib.Dec.{ltb}
use lib.ListN.{length}
use Rattle.std.proofs.lemmas.Iterator.{YieldsList-from_slice}
use Rattle.std.proofs.lemmas.Iterator.Search.{any_from_yields_List}
use Rattle.ranges.specs.Ranges.{any_over}
use Rattle.answers.specs.Edition.{whole_share}
use Rattle.editions.specs.Loading.{bad_shares}
use Rattle.editions.proofs.Refused.{any_listed}
use Rattle.editions.proofs.bad_shares.Goals.{After-any}
use Rattle.editions.proofs.bad_shares.Goals as goal

-- there are seven shares
seven : (e : After-any) → length e.args.shares ≡ 7
seven e = e.well_formed.0.1.0.1

pub returns : goal.returns
unfolding bad_shares
returns c =
    any_from_yields_List (ltb whole_share) _ _ _ c.any.ensures.ran (YieldsList-from_slice c.args.shares cc) (λ x b q k. search rules)
    ∙ any_listed (ltb whole_share) 0 c.args.shares
    ∙ ap (any_over _) (seven c)
