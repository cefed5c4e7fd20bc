use mathlib.Core.Path.{refl}
use native.Mathlib.Omega.{arith}
use Rattle.ranges.proofs.Tables.{filled_none, filled_more, filled_all}
use Rattle.grid.specs.Answers.{curve_of}
use Rattle.grid.proofs.write_curve.Goals as goal

pub returns : goal.returns
unfolding curve_of
returns c = filled_all c.loop-q.invariant (omega arith)

pub loop-q-init : goal.loop-q-init
loop-q-init c = filled_none c.requires.0

pub loop-q-preserved : goal.loop-q-preserved
loop-q-preserved c = filled_more c.loop-q.invariant (omega arith) refl
