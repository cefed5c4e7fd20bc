-- `sheet_read::set_from` meets its contract: the places that pass are counted.
-- Assumes nothing.
use mathlib.Core.Path.{refl, ◌∙◌}
use borrow.Author.Rules.{rules}
use Rattle.std.specs.List.{range_with_len}
use Rattle.std.proofs.lemmas.List.Sums.{length-filter}
use Rattle.std.proofs.lemmas.Iterator.{YieldsList-from_range}
use Rattle.std.proofs.lemmas.Iterator.Consumers.{YieldsList-from_filter, count_from_yields_List}
use Rattle.answers.specs.Ruling.{day_quarters}
use Rattle.sheet.specs.Bytes.{bit_at, set_from}
use Rattle.ranges.proofs.Counts.{count_listed}
use Rattle.sheet_read.proofs.set_from.Goals as goal

pub returns : goal.returns
unfolding set_from
returns c =
    let set = bit_at c.args.b.now c.args.i in
    let places = YieldsList-from_range 0 day_quarters day_quarters c.filter.ensures.source refl in
    count_from_yields_List _ _ c.count.ensures.ran (YieldsList-from_filter _ set places c.filter.ensures.closure (λ x b q k. search rules))
    ∙ length-filter set (range_with_len 0 day_quarters)
    ∙ count_listed set day_quarters
