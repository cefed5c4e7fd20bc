use mathlib.Core.Path.{◌≡◌, sym, ap, ◌∙◌}
use mathlib.Core.Bool.{Bool, ◌||◌}
use native.Mathlib.Omega.{arith}
use lib.Dec.{ltb}
use lib.ListN.{get_or}
use Rattle.ranges.specs.Ranges.{any_over}
use Rattle.ranges.proofs.Tests.{any_none, any_more}
use Rattle.answers.specs.Ruling.{day_quarters}
use Rattle.day_figures.specs.Passes.{some_left}
use Rattle.day_figures.proofs.some_left.Goals as goal

pub loop-mask-preserved : goal.loop-mask-preserved
loop-mask-preserved c =
    let at = c.loop-mask in
    let masks = c.args.masks.now in
    (omega arith, ap (λ (b : Bool). b || ltb 0 (get_or masks at.mask-index 0)) at.invariant.1 ∙ sym (any_more _ _))

pub returns : goal.returns
unfolding some_left
returns c =
    let at = c.loop-mask in
    let all : at.mask-index ≡ day_quarters = omega arith in
    at.invariant.1 ∙ ap (any_over _) all

pub loop-mask-init : goal.loop-mask-init
loop-mask-init c = (omega arith, sym (any_none _))
