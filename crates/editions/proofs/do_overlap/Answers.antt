-- `editions::do_overlap` meets its contract: the test of each record that counts, in a row.
-- Assumes nothing.
use mathlib.Core.Path.{ap, ◌∙◌}
use borrow.Author.Rules.{rules}
use lib.ListN.{take}
use Rattle.std.proofs.lemmas.Iterator.{YieldsList-from_slice}
use Rattle.std.proofs.lemmas.Iterator.Search.{any_from_yields_List}
use Rattle.ranges.specs.Ranges.{any_over}
use Rattle.ranges.proofs.Tests.{any_cong}
use Rattle.answers.specs.declared.Edition.{Edition}
use Rattle.editions.specs.Editions.{no_record}
use Rattle.editions.specs.Loading.{meets, overlaps}
use Rattle.editions.proofs.Picked.{Counted, counted}
use Rattle.editions.proofs.Refused.{any_listed}
use Rattle.editions.proofs.do_overlap.Goals.{After-any}
use Rattle.editions.proofs.do_overlap.Goals as goal

these : (e : After-any) → Counted e.args.editions (take e.loaded_in.result e.args.editions.records)
these e = counted _ _ e.well_formed.0.1.1.1.0.1.0.1 e.loaded_in.ensures.0

pub returns : goal.returns
unfolding overlaps
returns c =
    let counting = take c.loaded_in.result c.args.editions.records in
    any_from_yields_List (λ ed. meets ed c.args.edition) _ _ _ c.any.ensures.ran (YieldsList-from_slice counting cc) (λ x b q k. search rules)
    ∙ any_listed (λ ed. meets ed c.args.edition) no_record _
    ∙ ap (any_over _) (these c).long
    ∙ any_cong _ _ _ (λ k h. ap (λ (ed : Edition). meets ed c.args.edition) ((these c).each k h))
