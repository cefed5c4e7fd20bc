-- `calendar::is_free` meets its contract, a law for each return.
-- Assumes nothing.
use mathlib.Core.Path.{◌∙◌}
use native.Mathlib.Omega.{arith}
use Rattle.day_kinds.proofs.Rules.{free_weekend, free_listed, free_rest}
use Rattle.calendar.proofs.is_free.Goals as goal

pub returns-then-weekday-ge-SATURDAY : goal.returns-then-weekday-ge-SATURDAY
returns-then-weekday-ge-SATURDAY c = free_weekend _ _ _ (omega arith)

pub returns-then-marks-day : goal.returns-then-marks-day
returns-then-marks-day c = free_listed _ _ _ (omega arith) c.if-marks-day.true

pub returns : goal.returns
returns c = c.in_christmas.ensures ∙ free_rest _ _ _ (omega arith) c.if-marks-day.false
