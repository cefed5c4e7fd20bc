use mathlib.Core.Path.{refl}
use native.Mathlib.Omega.{arith}
use Rattle.ranges.proofs.Tables.{filled_none, filled_more, filled_all}
use Rattle.windows.proofs.mark_above.Goals as goal

pub loop-q-init : goal.loop-q-init
loop-q-init c = filled_none c.requires

pub loop-q-preserved : goal.loop-q-preserved
loop-q-preserved c = filled_more c.loop-q.invariant (omega arith) refl

pub returns : goal.returns
returns c = filled_all c.loop-q.invariant (omega arith)
