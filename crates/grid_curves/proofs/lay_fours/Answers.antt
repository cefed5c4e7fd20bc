use mathlib.Core.Path.{◌≡◌, ◌∙◌}
use Prim.Native.Nat.{◌≤◌, ◌+◌, ◌-◌}
use native.Mathlib.Omega.{arith}
use borrow.Author.Tests.{leb-true}
use lib.ListN.{length, length-take, length-drop}
use Rattle.ranges.proofs.Bools.{both}
use Rattle.periods.specs.Period.{period_season}
use Rattle.periods.proofs.Periods.{period_most, period_season_range}
use Rattle.readings.specs.declared.Run.TheVariants.{Period}
use Rattle.readings.proofs.Near.{own_span}
use Rattle.readings.proofs.Runs.{start_most, usual_on, span_start}
use Rattle.grid_curves.specs.Four.{four_days}
use Rattle.grid_curves.proofs.Fours.{four_more}
use Rattle.grid_curves.proofs.lay_fours.Goals.{At-loop-d, In-loop-d}
use Rattle.grid_curves.proofs.lay_fours.Goals as goal

-- day d is one of the period's, and so stands far below 64 bits
near : (e : At-loop-d) → (e.loop-d.d ≤ 366) × (e.loop-d.at ≤ 36600)
near e =
    let y = e.args.sundays.year in
    let few = period_most y in
    let low = start_most (Period y) e.loop-d.d in
    (omega arith, omega arith)

-- there are four days of the season, and readings for them
four :
    (e : In-loop-d)
    → let a = e.args in
    (e.loop-d.d + 4 ≤ a.end) × (e.loop-d.at + four_days ≤ length a.series.now)
four e =
    let t = both _ _ e.loop-d-test.true in
    (leb-true _ _ t.0, leb-true _ _ t.1)

pub loop-d-init : goal.loop-d-init
loop-d-init c =
    let is = c.span_by-at.ensures ∙ own_span (Period c.args.sundays.year) c.args.from c.args.sundays.own in
    (omega arith, omega arith, span_start _ _ is, c.requires.3)

pub lay_four-requires : goal.lay_four-requires
lay_four-requires c =
    let a = c.args in
    let r = period_season_range a.sundays.year (a.from + 1) in
    let h = four (goal.at.lay_four-requires c).In-loop-d in
    let is : period_season a.sundays.year (a.from + 1) ≡ a.season = (c.requires.2 a.from (omega arith) (omega arith)).0 in
    (simp (length-take, length-drop) (omega arith), omega (arith, is), omega (arith, is))

pub loop-d-preserved : goal.loop-d-preserved
loop-d-preserved c =
    let at = c.loop-d in
    let a = c.args in
    let h = four (goal.at.loop-d-preserved c).In-loop-d in
    let on = usual_on (Period a.sundays.year) at.d 4 (λ k l. (c.requires.2 (at.d + k) (omega arith) (omega arith)).1) in
    let laid = four_more a.sundays.year a.series.now at.d a.season {size = at.at + four_days - at.at} at.invariant.2
    (omega arith) (λ k l. c.requires.2 (at.d + k) (omega arith) (omega arith)) at.invariant.3 in
    (omega arith, h.0, omega (arith, on), c.lay_four.ensures ∙ laid)

pub overflow_add-d : goal.overflow_add-d
overflow_add-d c = let h = near c in omega arith

pub overflow_add-at : goal.overflow_add-at
overflow_add-at c = let h = near c in omega arith

pub overflow_add-at-in-loop-d : goal.overflow_add-at-in-loop-d
overflow_add-at-in-loop-d c = let h = near (goal.at.overflow_add-at-in-loop-d c).At-loop-d in omega arith

pub offset_bounds-series-at : goal.offset_bounds-series-at
offset_bounds-series-at c = let h = near (goal.at.offset_bounds-series-at c).At-loop-d in omega arith

pub slice_bounds-lay_four-end : goal.slice_bounds-lay_four-end
slice_bounds-lay_four-end c = let h = four (goal.at.slice_bounds-lay_four-end c).In-loop-d in omega arith

pub overflow_add-d-in-loop-d : goal.overflow_add-d-in-loop-d
overflow_add-d-in-loop-d c = let h = near (goal.at.overflow_add-d-in-loop-d c).At-loop-d in omega arith

pub overflow_add-at-in-loop-d-2 : goal.overflow_add-at-in-loop-d-2
overflow_add-at-in-loop-d-2 c = let h = near (goal.at.overflow_add-at-in-loop-d-2 c).At-loop-d in omega arith

pub loop-d-smaller : goal.loop-d-smaller
loop-d-smaller c = let h = four (goal.at.loop-d-smaller c).In-loop-d in omega arith

pub returns : goal.returns
returns c = let h = c.loop-d.invariant in record { from = h.0; upto = h.1; are = h.3 }
