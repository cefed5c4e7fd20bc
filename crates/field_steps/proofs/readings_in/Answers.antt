use mathlib.Core.Path.{refl}
use native.Mathlib.Omega.{arith}
use Rattle.ranges.proofs.Tables.{filled_none, filled_more, filled_all}
use Rattle.field_steps.proofs.readings_in.Goals as goal

pub loop-i-init : goal.loop-i-init
loop-i-init c = filled_none refl

pub loop-i-preserved : goal.loop-i-preserved
loop-i-preserved c = filled_more c.loop-i.invariant (omega arith) c.four_at.ensures

pub returns : goal.returns
returns c = filled_all c.loop-i.invariant (omega arith)
