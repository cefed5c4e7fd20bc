use native.Mathlib.Omega.{arith}
use Rattle.texts.proofs.Writing.{wrote_as, then_put, laid_none, laid_room, laid_more, laid_all}
use Rattle.lines.proofs.Figures.{figures_long, figures_is}
use Rattle.lines.proofs.add_figures.Goals as goal

pub loop-i-init : goal.loop-i-init
loop-i-init c = laid_none (omega (arith, c.requires, figures_long c.args.figures.now))

pub add_field-requires : goal.add_field-requires
add_field-requires c = laid_room c.loop-i.invariant (omega arith)

pub loop-i-preserved : goal.loop-i-preserved
loop-i-preserved c = laid_more c.loop-i.invariant (omega arith) c.add_field.ensures

pub returns : goal.returns
returns c =
    let all = laid_all c.loop-i.invariant (omega arith) in
    let is = figures_is c.args.figures.now in
    wrote_as is (then_put all c.add.ensures (rw is c.requires))
