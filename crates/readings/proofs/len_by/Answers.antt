-- `readings::len_by` meets its contract, a law for each return.
-- Assumes nothing.
use mathlib.Core.Path.{sym}
use Rattle.readings.proofs.Spans.{len_short, len_long, len_usual}
use Rattle.readings.proofs.len_by.Goals as goal

pub returns-then-d-change : goal.returns-then-d-change
returns-then-d-change c = sym (len_short _ _ c.if-d-change.true)

pub returns-then-d-change-2 : goal.returns-then-d-change-2
returns-then-d-change-2 c = sym (len_long _ _ c.if-d-change.false c.if-d-change-2.true)

pub returns : goal.returns
returns c = sym (len_usual _ _ c.if-d-change.false c.if-d-change-2.false)
