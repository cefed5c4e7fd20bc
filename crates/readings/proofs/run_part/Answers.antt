-- `readings::run_part` meets its contract, a law for each return.
-- Assumes nothing.
use mathlib.Core.Path.{◌≡◌, sym, ap, ◌∙◌}
use mathlib.Core.Bool.{false}
use Prim.Native.Nat.{◌+◌, ◌-◌, ◌≤◌}
use native.Mathlib.Omega.{arith}
use Rattle.readings.specs.Runs.{day_len, day_start}
use Rattle.readings.specs.Part.{no_day}
use Rattle.readings.proofs.Near.{own_span}
use Rattle.readings.proofs.Runs.{days_most, start_most, start_more, span_start, span_len}
use Rattle.readings.proofs.Part.{HasDay, has_day, part_none, part_past, part_held}
use Rattle.readings.proofs.run_part.Goals.{After-span_by-span, Else-no_day}
use Rattle.readings.proofs.run_part.Goals as goal

-- there is such a day
there : (e : Else-no_day) → no_day e.args.run e.args.day ≡ false
there e = sym e.no_day.ensures ∙ e.if-no_day.false

day_of : (e : Else-no_day) → HasDay e.args.run e.args.day
day_of e = has_day _ _ (there e)

-- its number fits 16 bits
few : (e : Else-no_day) → e.args.day ≤ 366
few e = omega (arith, (day_of e).to, days_most e.args.run)

-- the day's span: where it starts and how long it is, and so where it ends
spans :
    (e : After-span_by-span)
    → let a = e.args in
    (e.span_by-span.result.start ≡ day_start a.run (a.day - 1))
    × (e.span_by-span.result.len ≡ day_len a.run (a.day - 1))
    × (e.span_by-span.result.start + e.span_by-span.result.len ≡ day_start a.run a.day)
spans e =
    let a = e.args in
    let is = e.span_by-span.ensures ∙ own_span a.run (a.day - 1) e.change_of.ensures in
    let s = span_start _ _ is in
    let l = span_len _ _ is in
    let last : a.day - 1 + 1 ≡ a.day = omega (arith, (has_day _ _ (sym e.no_day.ensures ∙ e.if-no_day.false)).from) in
    (s, l, omega (arith, start_more a.run (a.day - 1), ap (day_start a.run) last))

pub overflow_add-end : goal.overflow_add-end
overflow_add-end c =
    let a = c.args in
    omega (arith, (spans (goal.at.overflow_add-end c).After-span_by-span).2, start_most a.run a.day, few (goal.at.overflow_add-end c).Else-no_day)

pub returns-then-series-end : goal.returns-then-series-end
returns-then-series-end c =
    let w = goal.at.returns-then-series-end c in
    part_past _ _ _ (there w.Else-no_day) (omega (arith, (spans w.After-span_by-span).2, c.if-series-end.true))

pub returns : goal.returns
returns c =
    let r = c.span_by-span.result in
    part_held _ _ _ (there (goal.at.returns c).Else-no_day) {size = r.start + r.len - r.start}
    (omega (arith, (spans (goal.at.returns c).After-span_by-span).2, c.if-series-end.false))
    (spans (goal.at.returns c).After-span_by-span).0
    (omega (arith, (spans (goal.at.returns c).After-span_by-span).1))

pub returns-then-no_day : goal.returns-then-no_day
returns-then-no_day c = part_none _ _ _ (sym c.no_day.ensures ∙ c.if-no_day.true)

pub overflow_sub-day : goal.overflow_sub-day
overflow_sub-day c = omega (arith, (day_of (goal.at.overflow_sub-day c).Else-no_day).from)

pub overflow_cast-day : goal.overflow_cast-day
overflow_cast-day c = omega (arith, few (goal.at.overflow_cast-day c).Else-no_day)
