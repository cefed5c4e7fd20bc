-- `readings::span_by` meets its contract: by the day's length, and by the readings before it.
-- Assumes nothing.
use native.Mathlib.Omega.{arith}
use Rattle.readings.proofs.Spans.{span_one, span_apart}
use Rattle.readings.proofs.span_by.Goals as goal

pub overflow_add-result : goal.overflow_add-result
overflow_add-result c = omega (arith, c.four_before.ensures.1)

pub overflow_sub-result-2 : goal.overflow_sub-result-2
overflow_sub-result-2 c =
    rw c.from-usual.ensures ((span_apart _ _ c.four_before-lost.ensures.0 c.len_by-len.ensures c.if-change.false c.four_before.ensures.0).0)

pub returns : goal.returns
returns c =
    rw c.from-usual.ensures ((span_apart _ _ c.four_before-lost.ensures.0 c.len_by-len.ensures c.if-change.false c.four_before.ensures.0).1)

pub overflow_sub-result : goal.overflow_sub-result
overflow_sub-result c =
    rw c.from-usual.ensures ((span_one _ _ c.four_before-lost.ensures.0 c.len_by-len.ensures c.if-change.true).0)

pub returns-then-change : goal.returns-then-change
returns-then-change c =
    rw c.from-usual.ensures ((span_one _ _ c.four_before-lost.ensures.0 c.len_by-len.ensures c.if-change.true).1)
