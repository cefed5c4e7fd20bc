use mathlib.Core.Path.{ap, ◌∙◌}
use mathlib.Core.Bool.{Bool, false}
use native.Mathlib.Omega.{arith}
use lib.ListN.{length-take}
use lib.Seq.{get_or-take}
use Rattle.ranges.specs.Ranges.{number_if}
use Rattle.day_figures.specs.Passes.{all_ones}
use Rattle.day_figures.proofs.Masks.{made_none, made_more, made_all}
use Rattle.day_figures.proofs.masks_of.Goals as goal

pub loop-q-init : goal.loop-q-init
loop-q-init c = made_none _

pub loop-q-preserved : goal.loop-q-preserved
loop-q-preserved c =
    let row = c.args.row.now in
    let flags = length-take c.min-end.result row in
    made_more row c.loop-q.invariant (omega (arith, flags))
    (c.mask_if.ensures ∙ ap (λ (b : Bool). number_if b all_ones) (get_or-take c.min-end.result row c.loop-q.q false (omega (arith, flags))))

pub returns : goal.returns
returns c = made_all _ c.loop-q.invariant (omega (arith, length-take c.min-end.result c.args.row.now))
