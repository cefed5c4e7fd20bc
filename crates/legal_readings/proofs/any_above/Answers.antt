use mathlib.Core.Path.{◌≡◌, sym, ap, ◌∙◌}
use mathlib.Core.Bool.{◌||◌}
use native.Mathlib.Omega.{arith}
use lib.Dec.{ltb}
use lib.ListN.{length, get_or}
use Rattle.ranges.specs.Ranges.{any_over}
use Rattle.ranges.proofs.Tests.{any_none, any_more}
use Rattle.ranges.proofs.First.{any_above}
use Rattle.readings.specs.Legal.{highest_of}
use Rattle.legal_readings.proofs.any_above.Goals as goal

pub loop-reading-preserved : goal.loop-reading-preserved
loop-reading-preserved c =
    let at = c.loop-reading in
    let a = c.args in
    (omega arith, (λ i. at.invariant.1 i || ltb a.limit (get_or a.readings.now at.reading-index 0)) ∙ sym (any_more _ at.reading-index))

pub returns : goal.returns
unfolding highest_of
returns c =
    let a = c.args in
    let all : c.loop-reading.reading-index ≡ length a.readings.now = omega arith in
    c.loop-reading.invariant.1 ∙ ap (any_over _) all ∙ any_above (λ k. get_or a.readings.now k 0) a.limit (length a.readings.now)

pub loop-reading-init : goal.loop-reading-init
loop-reading-init c = (omega arith, sym (any_none _))
