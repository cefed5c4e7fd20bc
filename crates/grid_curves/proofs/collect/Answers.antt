use mathlib.Core.Path.{◌≡◌, ap, ◌∙◌}
use native.Mathlib.Omega.{arith}
use Rattle.periods.specs.Period.{period_days}
use Rattle.grid_curves.specs.Curves.{flat_curves}
use Rattle.grid_curves.proofs.Curves.{curves_none}
use Rattle.grid_curves.proofs.collect.Goals as goal

pub returns : goal.returns
returns c =
    let at = c.loop-d in
    let full : at.d ≡ period_days c.args.year = omega arith in
    at.invariant.2 ∙ ap (flat_curves _ _) full

pub loop-d-init : goal.loop-d-init
loop-d-init c = (c.period_days-days.ensures, omega arith, curves_none _ _)

pub lay_month-d-requires : goal.lay_month-d-requires
lay_month-d-requires c = (omega arith, c.loop-d.invariant.2)

pub loop-d-smaller : goal.loop-d-smaller
loop-d-smaller c = let h = c.lay_month-d.ensures in omega arith

pub loop-d-preserved : goal.loop-d-preserved
loop-d-preserved c = let h = c.lay_month-d.ensures in (c.loop-d.invariant.0, omega arith, h.are)
