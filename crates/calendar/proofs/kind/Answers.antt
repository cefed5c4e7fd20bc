-- `calendar::kind` meets its contract, a law for each return, in the order of the grounds.
-- Assumes nothing.
use mathlib.Core.Path.{◌≡◌, sym, ◌∙◌}
use mathlib.Core.Bool.{false}
use native.Mathlib.Omega.{arith}
use Rattle.day_kinds.specs.Kinds.{christmas}
use Rattle.day_kinds.proofs.Rules.{kind_weekend, kind_listed, kind_christmas, kind_bridge, kind_windows}
use Rattle.calendar.proofs.kind.Goals.{Else-in_christmas}
use Rattle.calendar.proofs.kind.Goals as goal

no_christmas : (e : Else-in_christmas) → let a = e.args in christmas a.year a.day ≡ false
no_christmas e = sym e.in_christmas.ensures ∙ e.if-in_christmas.false

pub returns-then-in_christmas : goal.returns-then-in_christmas
returns-then-in_christmas c = kind_christmas _ _ _ (omega arith) c.if-marks-day.false (sym c.in_christmas.ensures ∙ c.if-in_christmas.true)

pub returns-then-is_bridge : goal.returns-then-is_bridge
returns-then-is_bridge c =
    kind_bridge _ _ _ (omega arith) c.if-marks-day.false (no_christmas (goal.at.returns-then-is_bridge c).Else-in_christmas)
    (sym c.is_bridge.ensures ∙ c.if-is_bridge.true)

pub returns : goal.returns
returns c =
    kind_windows _ _ _ (omega arith) c.if-marks-day.false (no_christmas (goal.at.returns c).Else-in_christmas)
    (sym c.is_bridge.ensures ∙ c.if-is_bridge.false)

pub returns-then-weekday-ge-SATURDAY : goal.returns-then-weekday-ge-SATURDAY
returns-then-weekday-ge-SATURDAY c = kind_weekend _ _ _ (omega arith)

pub returns-then-marks-day : goal.returns-then-marks-day
returns-then-marks-day c = kind_listed _ _ _ (omega arith) c.if-marks-day.true
