use mathlib.Core.Path.{refl}
use mathlib.Core.Bool.{Bool, false}
use native.Mathlib.Omega.{arith}
use lib.ListN.{get_or-replicate}
use Rattle.calendar.specs.Marks.{mark_places}
use Rattle.calendar.proofs.Marked.{marking_none, marking_more, marking_all}
use Rattle.calendar.proofs.marks.Goals as goal

pub loop-day-preserved : goal.loop-day-preserved
loop-day-preserved c = marking_more _ c.loop-day.invariant (omega arith) c.place_of.ensures.0

pub loop-day-init : goal.loop-day-init
loop-day-init c = marking_none _ refl (λ d b. get_or-replicate {A = Bool} mark_places d false false (omega arith))

pub returns : goal.returns
returns c = marking_all _ c.loop-day.invariant (omega arith)
