use mathlib.Core.Path.{refl, ap}
use native.Mathlib.Omega.{arith}
use lib.ListN.{length}
use Rattle.lines.specs.Figures.{field_in}
use Rattle.texts.proofs.Text.{text_none}
use Rattle.lines.proofs.Figures.{fit_stops, fit_more, fit_all}
use Rattle.lines.proofs.figures_fit.Goals as goal

pub loop-i-init : goal.loop-i-init
loop-i-init c = (refl, omega arith, omega (arith, ap length (text_none (field_in c.args.figures.now))))

pub returns-then-left-need : goal.returns-then-left-need
returns-then-left-need c =
    fit_stops c.args.figures.now _ _ c.loop-i.invariant.2 (omega arith) (omega (arith, c.field_len-need.ensures))

pub loop-i-preserved : goal.loop-i-preserved
loop-i-preserved c =
    let more = fit_more c.args.figures.now _ _ c.loop-i.invariant.2 c.field_len-need.ensures in
    (c.loop-i.invariant.0, omega arith, more (omega arith))

pub returns : goal.returns
returns c = fit_all c.args.figures.now _ _ c.loop-i.invariant.2 (omega arith)
