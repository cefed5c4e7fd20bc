use mathlib.Core.Path.{refl}
use native.Mathlib.Omega.{arith}
use Rattle.sheet.specs.Windows.{flat_windows}
use Rattle.ranges.proofs.Tables.{filled_none, filled_more, filled_all}
use Rattle.grid.proofs.flat_windows.Goals as goal

pub returns : goal.returns
unfolding flat_windows
returns c = filled_all c.loop-p.invariant (omega arith)

pub loop-p-init : goal.loop-p-init
loop-p-init c = filled_none refl

pub loop-p-preserved : goal.loop-p-preserved
loop-p-preserved c = filled_more c.loop-p.invariant (omega arith) refl
