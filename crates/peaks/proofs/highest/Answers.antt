use mathlib.Core.Path.{◌≡◌, sym}
use native.Mathlib.Omega.{arith}
use lib.ListN.{length}
use Rattle.readings.specs.Legal.{highest_of}
use Rattle.ranges.proofs.Largest.{largest_none, largest_more}
use Rattle.peaks.proofs.highest.Goals as goal

pub returns : goal.returns
unfolding highest_of
returns c =
    let e : c.loop-reading.reading-index ≡ length c.args.readings.now = omega arith in
    rw e at c.loop-reading.invariant.1

pub loop-reading-init : goal.loop-reading-init
loop-reading-init c = (omega arith, sym (largest_none _))

pub loop-reading-preserved : goal.loop-reading-preserved
loop-reading-preserved c = (omega arith, rw largest_more (omega arith))
