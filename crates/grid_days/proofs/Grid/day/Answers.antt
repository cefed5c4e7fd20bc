-- `grid_days::Grid::day` meets its contract: a refusal leaves the curves, and so the state; a day that is not refused
-- is laid over it. Assumes nothing.
use mathlib.Core.Path.{◌≡◌, refl, sym, ◌∙◌}
use Prim.Native.Nat.{◌+◌}
use native.Mathlib.Omega.{arith}
use Rattle.answers.specs.Said.{only}
use Rattle.periods.proofs.Periods.{period_most}
use Rattle.grid_days.specs.declared.Grid.{Grid}
use Rattle.grid_days.specs.Days.{grid_day_answer, grid_taken}
use Rattle.grid_days.proofs.Steps.{answered, refused, day_left, curves_refused, curves_taken, day_refused, day_taken_law}
use Rattle.grid_days.proofs.Grid.day.Goals.{Then-is_ok}
use Rattle.grid_days.proofs.Grid.day.Goals as goal

taken_at : (e : Then-is_ok) → let a = e.args in only 0 ≡ grid_day_answer a.self a.day.now
taken_at e = answered _ (sym e.is_ok.ensures.value ∙ e.if-is_ok.true) ∙ e.take_day-answer.ensures.0

pub overflow_add-grid : goal.overflow_add-grid
overflow_add-grid c =
    let s = c.args.self in
    omega (arith, day_left s.year s.seen _ (taken_at c), period_most s.year)

pub returns-then-is_ok : goal.returns-then-is_ok
returns-then-is_ok c =
    let a = c.args in
    let s = a.self in
    let said = c.take_day-answer in
    let laid = said.ensures.1 ∙ sym (curves_taken s.year s.curves s.seen a.day.now (taken_at c) refl).1 in
    let next : ◌≡◌ {A = Grid} _ (grid_taken s a.day.now) =
    λ i. record { edition = s.edition; year = s.year; level = s.level; seen = s.seen + 1; curves = laid i } in
    (said.ensures.0, (day_taken_law s a.day.now (taken_at c) next).1)

pub returns-else-is_ok : goal.returns-else-is_ok
returns-else-is_ok c =
    let a = c.args in
    let s = a.self in
    let said = c.take_day-answer in
    let z = refused _ (sym c.is_ok.ensures.value ∙ c.if-is_ok.false) in
    let kept = day_refused s a.day.now _ z said.ensures.0 in
    let curves = said.ensures.1 ∙ sym (curves_refused s.year s.curves s.seen a.day.now _ z said.ensures.0).1 in
    (kept.0, (λ i. record { edition = s.edition; year = s.year; level = s.level; seen = s.seen; curves = curves i }) ∙ kept.1)
