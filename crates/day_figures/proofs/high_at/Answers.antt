-- `day_figures::high_at` meets its contract, by whether there is a position.
-- Assumes nothing.
use mathlib.Core.Path.{sym, ap, subst, ◌∙◌}
use Prim.Native.Nat.{ℕ, ◌<◌}
use native.Mathlib.Omega.{arith}
use lib.ListN.{length}
use Rattle.std.specs.Prelude.{Option, IfSome, unwrap_or}
use Rattle.readings.proofs.Quarters.{quarter_near}
use Rattle.day_figures.specs.Passes.{high_at}
use Rattle.day_figures.proofs.OneDay.{sized_most, high_here, high_before}
use Rattle.day_figures.proofs.high_at.Goals.{In-Some}
use Rattle.day_figures.proofs.high_at.Goals as goal

-- the day has the position
here : (e : In-Some) → e.in-Some.at < length e.args.day.now
here e = subst (λ (o : Option ℕ). IfSome o (λ (p : ℕ). p < length e.args.day.now)) e.in-Some.is e.requires.2

-- a quarter is at most four later than its position
pub overflow_cast-result : goal.overflow_cast-result
overflow_cast-result c =
    omega (arith, quarter_near _ _ c.quarter_in.ensures, sized_most c.args.day.now c.requires.1, here (goal.at.overflow_cast-result c).In-Some)

pub returns : goal.returns
returns c =
    let a = c.args in
    high_here a.f a.d a.day.now c.in-Some.at (here (goal.at.returns c).In-Some) c.quarter_in.ensures
    ∙ ap (λ (o : Option ℕ). high_at a.f a.d a.day.now (unwrap_or o (length a.day.now))) (sym c.in-Some.is)

pub returns-in_default : goal.returns-in_default
returns-in_default c =
    let a = c.args in
    high_before a.f a.d a.day.now (length a.day.now) (omega arith)
    ∙ ap (λ (o : Option ℕ). high_at a.f a.d a.day.now (unwrap_or o (length a.day.now))) (sym c.in_default.is)
