use mathlib.Core.Path.{refl, ◌∙◌}
use Rattle.ranges.proofs.Bools.{bit_le}
use Rattle.windows.proofs.Counted.{counts}
use native.Mathlib.Omega.{arith}
use Rattle.windows.proofs.Added.{added_none, added_more, added_all}
use Rattle.windows.proofs.add_equals.Goals as goal

pub loop-q-preserved : goal.loop-q-preserved
loop-q-preserved c = added_more _ _ _ c.loop-q.invariant (omega arith) refl (c.from-n.ensures ∙ counts _) (rw (c.from-n.ensures, counts) (bit_le _))

pub loop-q-init : goal.loop-q-init
loop-q-init c = added_none _ _ _ c.requires

pub returns : goal.returns
returns c = added_all _ _ _ c.loop-q.invariant (omega arith)
