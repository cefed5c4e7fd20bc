use mathlib.Core.Path.{refl, sym, ◌∙◌}
use native.Mathlib.Omega.{arith}
use Rattle.ranges.proofs.Tests.{passed_none, passed_more}
use Rattle.holidays.proofs.Lists.{before_next, entry, bad_long, bad_at_law, bad_none}
use Rattle.holidays.proofs.bad_holidays.Goals as goal

pub returns-then-bad_holiday : goal.returns-then-bad_holiday
returns-then-bad_holiday c =
    let bad = sym c.bad_holiday.ensures ∙ c.if-bad_holiday.true in
    bad_at_law _ _ c.loop-day.day-index (entry _ _ c.loop-day.day-index c.loop-day.invariant.0 bad) (omega arith)

pub loop-day-preserved : goal.loop-day-preserved
loop-day-preserved c =
    let kept = entry _ _ c.loop-day.day-index c.loop-day.invariant.0 (sym c.bad_holiday.ensures ∙ c.if-bad_holiday.false) in
    (before_next _ c.loop-day.day-index, passed_more c.loop-day.invariant.1 kept)

pub returns-then-holidays-gt-HOLIDAYS_MOST : goal.returns-then-holidays-gt-HOLIDAYS_MOST
returns-then-holidays-gt-HOLIDAYS_MOST c = bad_long _ _ (omega arith)

pub loop-day-init : goal.loop-day-init
loop-day-init c = (refl, passed_none)

pub returns : goal.returns
returns c = bad_none _ _ c.loop-day.invariant.1 (omega arith) (omega arith)
