use mathlib.Core.Path.{◌≡◌, sym, ◌∙◌}
use native.Mathlib.Omega.{arith}
use lib.Dec.{ltb}
use lib.ListN.{get_or}
use Rattle.answers.specs.Ruling.{day_quarters}
use Rattle.windows.specs.Cuts.{higher_than}
use Rattle.ranges.proofs.Bools.{bit_le}
use Rattle.ranges.proofs.Tests.{count_none, counted}
use Rattle.windows.proofs.Counted.{counts}
use Rattle.windows.proofs.count_above.Goals as goal

pub loop-value-preserved : goal.loop-value-preserved
loop-value-preserved c =
    let at = c.loop-value in
    let one = c.from-n.ensures ∙ counts _ in
    let few = bit_le (ltb c.args.limit (get_or c.args.curve.now at.value-index 0)) in
    (omega arith, omega (arith, one, few), counted _ _ at.invariant.2 one)

pub returns : goal.returns
unfolding higher_than
returns c = let e : c.loop-value.value-index ≡ day_quarters = omega arith in rw e at c.loop-value.invariant.2

pub loop-value-init : goal.loop-value-init
loop-value-init c = (omega arith, omega arith, sym (count_none _))
