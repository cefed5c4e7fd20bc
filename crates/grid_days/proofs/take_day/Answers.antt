-- `grid_days::take_day` meets its contract: a refusal leaves the curves, and a day that is not refused is laid over
-- them. Assumes nothing.
use mathlib.Core.Path.{◌∙◌}
use Rattle.std.proofs.lemmas.Result.{err_from_is_err_and}
use Rattle.grid.proofs.Answered.{refuses}
use Rattle.grid_days.proofs.Steps.{curves_refused, curves_taken}
use Rattle.grid_days.proofs.take_day.Goals as goal

pub returns-in_err-check_next : goal.returns-in_err-check_next
returns-in_err-check_next c =
    let a = c.args in
    let p = err_from_is_err_and c.from_residual.result c.from_residual.ensures.1 in
    rw p.1 (curves_refused a.year a.curves.now a.seen a.day.now _ (refuses _) (p.2 ∙ c.in_err-check_next.ensures))

pub returns : goal.returns
returns c =
    let a = c.args in
    curves_taken a.year a.curves.now a.seen a.day.now c.in_ok-check_next.ensures c.lay_day.ensures
