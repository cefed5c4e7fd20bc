-- `calendar::is_bridge` meets its contract, a law for each return.
-- Assumes nothing.
use mathlib.Core.Path.{◌≡◌, sym, ap, ◌∙◌}
use mathlib.Core.Bool.{false, not}
use Rattle.day_kinds.specs.Kinds.{monday_candidate}
use Rattle.calendar.specs.Marks.{marked}
use Rattle.day_kinds.proofs.Rules.{bridge_monday, bridge_friday, bridge_none}
use Rattle.calendar.proofs.is_bridge.Goals.{Else-is_candidate}
use Rattle.calendar.proofs.is_bridge.Goals as goal

no_monday : (e : Else-is_candidate) → let a = e.args in monday_candidate a.year (marked a.marks.now) a.day ≡ false
no_monday e = sym e.is_candidate.ensures ∙ e.if-is_candidate.false

pub returns-then-is_candidate-2 : goal.returns-then-is_candidate-2
returns-then-is_candidate-2 c =
    ap not c.is_candidate-then-is_candidate-2.ensures
    ∙ bridge_friday _ _ _ c.saturating_sub-first.ensures (no_monday (goal.at.returns-then-is_candidate-2 c).Else-is_candidate)
    (sym c.is_candidate-2.ensures ∙ c.if-is_candidate-2.true)

pub returns : goal.returns
returns c = bridge_none _ _ _ (no_monday (goal.at.returns c).Else-is_candidate) (sym c.is_candidate-2.ensures ∙ c.if-is_candidate-2.false)

pub returns-then-is_candidate : goal.returns-then-is_candidate
returns-then-is_candidate c = bridge_monday _ _ _ (sym c.is_candidate.ensures ∙ c.if-is_candidate.true)
