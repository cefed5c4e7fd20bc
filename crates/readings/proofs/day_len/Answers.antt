-- `readings::day_len` meets its contract: a day before or behind both Sundays, whenever they are, has 96 readings.
-- Assumes nothing.
use mathlib.Core.Path.{sym, ◌∙◌}
use Rattle.ranges.proofs.Bools.{both}
use Rattle.readings.proofs.Near.{own_len, late_enough, far_len}
use Rattle.readings.proofs.day_len.Goals as goal

-- the day lies before or behind both
pub returns-then-is_outside : goal.returns-then-is_outside
returns-then-is_outside c =
    let far = both _ _ c.if-is_outside.true in
    far_len _ c.latest-late.ensures _
    (sym c.is_outside.ensures ∙ far.0)
    (sym c.is_outside-2.ensures ∙ far.1)

pub overflow_sub-late : goal.overflow_sub-late
overflow_sub-late c = (late_enough c.args.run c.latest-late.ensures).0

pub overflow_sub-late-2 : goal.overflow_sub-late-2
overflow_sub-late-2 c = (late_enough c.args.run c.latest-late.ensures).1

pub returns : goal.returns
returns c = c.len_by.ensures ∙ own_len _ _ c.change_of.ensures
