-- `windows::keep` meets its contract: the higher ones, with the first of the equals where the cut takes any.
-- Assumes nothing.
use mathlib.Core.Path.{◌∙◌}
use native.Mathlib.Omega.{arith}
use Rattle.windows.proofs.Cutting.{no_equals}
use Rattle.windows.proofs.keep.Goals as goal

pub returns-then-cut-gt0 : goal.returns-then-cut-gt0
returns-then-cut-gt0 c =
    c.add_equals.ensures ∙ c.cut_of-cut.ensures

pub returns-else-cut-gt0 : goal.returns-else-cut-gt0
returns-else-cut-gt0 c =
    let cut = c.cut_of-cut in
    c.mark_above.ensures ∙ no_equals c.args.curve.now cut.result.limit (omega arith) ∙ cut.ensures

pub add_equals-requires : goal.add_equals-requires
add_equals-requires c = c.mark_above.ensures
