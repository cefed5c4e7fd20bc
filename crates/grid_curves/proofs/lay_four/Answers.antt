use mathlib.Core.Path.{ap, ◌∙◌}
use Prim.Native.Nat.{max}
use native.Mathlib.Omega.{arith}
use Rattle.grid_curves.proofs.Fours.{over_none, over_more, over_all, four_top_law}
use Rattle.grid_curves.proofs.lay_four.Goals as goal

pub loop-q-preserved : goal.loop-q-preserved
loop-q-preserved c =
    let h = c.loop-q.invariant in
    let early = c.max-early.ensures in
    let late = c.max-late.ensures in
    let top = c.max.ensures ∙ (λ i. max (early i) (late i)) ∙ four_top_law _ c.loop-q.q in
    let laid = over_more _ _ _ h.4 (omega arith) h.2 h.3 (omega arith) (c.max-in-loop-q.ensures ∙ ap (max _) top) in
    (h.0, h.1, h.2, h.3, laid)

pub loop-q-init : goal.loop-q-init
loop-q-init c = let p = c.requires in (omega arith, p.0, p.1, p.2, over_none _ _ _)

pub returns : goal.returns
returns c = over_all _ _ _ c.loop-q.invariant.4 (omega arith)
