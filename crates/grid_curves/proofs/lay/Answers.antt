use mathlib.Core.Path.{◌≡◌, ap, ◌∙◌}
use Prim.Native.Nat.{ℕ, ◌<◌, ◌-◌, ◌+◌, ◌*◌}
use native.Mathlib.Omega.{arith}
use Rattle.answers.specs.Ruling.{day_quarters}
use Rattle.sheet.specs.Windows.{window_places}
use Rattle.readings.specs.declared.Run.TheVariants.{Period}
use Rattle.readings.specs.Runs.{day_len, quarter_in, quarter_of}
use Rattle.periods.proofs.Periods.{period_season_range}
use Rattle.grid_curves.proofs.Laid.{reached, reached_in, laid_none, laid_more, laid_all}
use Rattle.grid_curves.proofs.lay.Goals.{After-quarter_in}
use Rattle.grid_curves.proofs.lay.Goals as goal

-- the quarter that the position stands for, and that the reached place is one of the curves
within :
    (e : After-quarter_in)
    → let a = e.args in
    (e.quarter_in.result ≡ quarter_of (Period a.year) a.d e.loop-p.p)
    × (reached a.year a.d a.day.now e.loop-p.p < window_places)
within e =
    let a = e.args in
    let q = e.quarter_in.ensures ∙ ap (λ (n : ℕ). quarter_in n e.loop-p.p) e.requires.0 in
    (q, reached_in a.year a.d a.day.now e.loop-p.p (omega arith))

pub overflow_sub-base : goal.overflow_sub-base
overflow_sub-base c = let s = period_season_range c.args.year (c.args.d + 1) in omega arith

pub overflow_mul-base : goal.overflow_mul-base
overflow_mul-base c = let s = period_season_range c.args.year (c.args.d + 1) in omega arith

pub loop-p-init : goal.loop-p-init
loop-p-init c = (ap (λ (n : ℕ). day_quarters * (n - 1)) c.requires.2, laid_none _ _ _)

pub loop-p-preserved : goal.loop-p-preserved
loop-p-preserved c =
    let a = c.args in
    let l : c.loop-p.p < day_len (Period a.year) a.d = omega arith in
    let q = (within (goal.at.loop-p-preserved c).After-quarter_in).0 in
    (c.loop-p.invariant.0, laid_more _ _ _ c.loop-p.invariant.1 l (omega arith) (omega arith))

pub overflow_add-at : goal.overflow_add-at
overflow_add-at c = let r = within c in omega arith

pub offset_bounds-curves-at : goal.offset_bounds-curves-at
offset_bounds-curves-at c = let r = within c in omega arith

pub bounds-curves-at : goal.bounds-curves-at
bounds-curves-at c = let r = within (goal.at.bounds-curves-at c).After-quarter_in in omega arith

pub offset_bounds-curves-at-in-loop-p : goal.offset_bounds-curves-at-in-loop-p
offset_bounds-curves-at-in-loop-p c = let r = within (goal.at.offset_bounds-curves-at-in-loop-p c).After-quarter_in in omega arith

pub bounds-curves-at-in-loop-p : goal.bounds-curves-at-in-loop-p
bounds-curves-at-in-loop-p c = let r = within (goal.at.bounds-curves-at-in-loop-p c).After-quarter_in in omega arith

pub returns : goal.returns
returns c = laid_all _ _ _ c.loop-p.invariant.1 (omega arith)
