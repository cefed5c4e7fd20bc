-- `grid_days::Grid::open_by` meets its contract: a refused opening has the fixed state beside it, another a state of no
-- day. Assumes nothing.
use mathlib.Core.Path.{◌∙◌}
use Rattle.grid_days.proofs.Steps.{opened_shut, opened_fresh}
use Rattle.grid_days.proofs.Grid.open_by.Goals as goal

pub returns-then-is_err : goal.returns-then-is_err
returns-then-is_err c =
    let said = c.opens-answer.ensures in
    (said, c.shut.ensures ∙ opened_shut _ _ _ _ said (rw c.if-is_err.true at c.is_err.ensures.negation))

pub returns : goal.returns
returns c =
    let said = c.opens-answer.ensures in
    (said, opened_fresh _ _ _ _ said (rw c.if-is_err.false at c.is_err.ensures.negation))
