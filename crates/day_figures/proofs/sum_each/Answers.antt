use mathlib.Core.Path.{◌≡◌, sym, ap, ◌∙◌}
use native.Mathlib.Omega.{arith}
use lib.ListN.{length}
use Rattle.ranges.specs.Ranges.{sum_over}
use Rattle.ranges.proofs.Sums.{sum_none, sum_more}
use Rattle.day_figures.specs.Day.{alone}
use Rattle.day_figures.proofs.sum_each.Goals as goal

pub loop-reading-preserved : goal.loop-reading-preserved
loop-reading-preserved c =
    let at = c.loop-reading in
    let day = c.args.day.now in (
      at.invariant.0,
      omega arith,
      omega (arith, at.invariant.2, sum_more (alone day) at.reading-index),
      omega (arith, at.invariant.3),
    )

pub returns : goal.returns
returns c =
    let at = c.loop-reading in
    let all : at.reading-index ≡ length c.args.day.now = omega arith in
    record { is = at.invariant.2 ∙ ap (sum_over _) all; most = omega arith }

pub loop-reading-init : goal.loop-reading-init
loop-reading-init c = (omega arith, omega arith, sym (sum_none _), omega arith)
