use mathlib.Core.Path.{ap, ◌∙◌}
use native.Mathlib.Omega.{arith}
use lib.Seq.{take_at, length-take-le}
use Rattle.ranges.specs.Ranges.{table}
use Rattle.ranges.proofs.Tables.{filled_none, filled_more, filled_all}
use Rattle.customer_opening.proofs.holidays_of.Goals as goal

pub loop-j-init : goal.loop-j-init
loop-j-init c = filled_none (length-take-le _ _ (omega (arith, c.holiday_count-n.ensures.1)))

pub loop-j-preserved : goal.loop-j-preserved
loop-j-preserved c = filled_more c.loop-j.invariant (omega (arith, c.loop-j.invariant.long)) c.two_at.ensures

pub returns : goal.returns
returns c =
    let h = c.loop-j.invariant in
    let n = c.holiday_count-n.ensures.0 in
    take_at _ _ _ (h.long ∙ n) ∙ filled_all h (omega (arith, h.long)) ∙ ap (table _) n
