-- `grid_head::refusal` meets its contract, a field for each return.
-- Assumes nothing.
use mathlib.Core.Path.{ap, ◌∙◌}
use native.Mathlib.Omega.{arith}
use Rattle.answers.specs.Ruling.{level_out}
use Rattle.grid_head.specs.Header.{grid_mark}
use Rattle.fields.proofs.Common.{mark_no, version_no, year_no, level_no}
use Rattle.grid_head.proofs.GridLayout.{refusal_at, refusal_none}
use Rattle.grid_head.proofs.refusal.Goals as goal

pub returns-in-0 : goal.returns-in-0
returns-in-0 c = c.number_if.ensures ∙ mark_no _ 0 grid_mark c.other_mark.ensures ∙ refusal_at _ _ 0 c.in-0.is (omega arith)

pub returns-in-1 : goal.returns-in-1
returns-in-1 c = c.number_if-in-1.ensures ∙ version_no _ 3 c.two_at.ensures ∙ refusal_at _ _ 1 c.in-1.is (omega arith)

pub returns-in-2 : goal.returns-in-2
returns-in-2 c =
    c.number_if-in-2.ensures ∙ year_no _ 5 _ c.two_at-in-2.ensures c.year_out.ensures ∙ refusal_at _ _ 2 c.in-2.is (omega arith)

pub returns-in-3 : goal.returns-in-3
returns-in-3 c =
    c.number_if-in-3.ensures ∙ level_no _ 7 (c.level_out.ensures ∙ ap level_out c.byte_at.ensures) ∙ refusal_at _ _ 3 c.in-3.is (omega arith)

pub returns-in_default : goal.returns-in_default
returns-in_default c = refusal_none _ _ _ (omega arith)
