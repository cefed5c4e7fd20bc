-- `grid_curves::lay_held` meets its contract: the part of the day that the series holds is laid.
-- Assumes nothing.
use mathlib.Core.Path.{◌≡◌, ◌∙◌}
use Prim.Native.Nat.{◌≤◌, ◌+◌, min}
use native.Mathlib.Omega.{arith}
use lib.ListN.{length, length-take, length-drop}
use Rattle.periods.proofs.Periods.{period_most}
use Rattle.readings.specs.declared.Run.TheVariants.{Period}
use Rattle.readings.specs.Runs.{day_len, day_start}
use Rattle.readings.proofs.Near.{own_span}
use Rattle.readings.proofs.Runs.{start_most, len_most, span_start, span_len}
use Rattle.grid_curves.proofs.Curves.{curves_held}
use Rattle.grid_curves.proofs.lay_held.Goals.{After-min-to, After-span_by-span}
use Rattle.grid_curves.proofs.lay_held.Goals as goal

-- the day's span, which lies far below 64 bits
record Spans (e : After-span_by-span) : Type 0 where
  start_is : e.span_by-span.result.start ≡ day_start (Period e.args.sundays.year) e.args.d
  len_is : e.span_by-span.result.len ≡ day_len (Period e.args.sundays.year) e.args.d
  low : e.span_by-span.result.start ≤ 36600
  short : e.span_by-span.result.len ≤ 100

spans : (e : After-span_by-span) → Spans e
spans e =
    let a = e.args in
    let is = e.span_by-span.ensures ∙ own_span (Period a.sundays.year) a.d a.sundays.own in
    let from = span_start _ _ is in
    let size = span_len _ _ is in
    record {
      start_is = from;
      len_is = size;
      low = omega (arith, from, period_most a.sundays.year, start_most (Period a.sundays.year) a.d);
      short = omega (arith, size, len_most (Period a.sundays.year) a.d);
    }

-- the part of the series that holds the day's readings, as far as it does
from_to :
    (e : After-min-to)
    → let a = e.args in
    let start = e.span_by-span.result.start in
    (e.min-from.result ≡ min start (length a.series.now))
    × (e.min-to.result ≡ min (start + day_len (Period a.sundays.year) a.d) (length a.series.now))
from_to e =
    let a = e.args in
    let len = span_len _ _ (e.span_by-span.ensures ∙ own_span (Period a.sundays.year) a.d a.sundays.own) in
    (e.min-from.ensures, omega (arith, e.min-to.ensures, len))

pub lay-requires : goal.lay-requires
lay-requires c =
    let w = goal.at.lay-requires c in
    let h = from_to w.After-min-to in
    ((spans w.After-span_by-span).len_is, simp (length-take, length-drop) (omega (arith, (spans w.After-span_by-span).len_is)), c.requires.1)

pub returns : goal.returns
returns c =
    let a = c.args in
    let h = from_to (goal.at.returns c).After-min-to in
    c.lay.ensures ∙ curves_held a.sundays.year a.series.now a.d (spans (goal.at.returns c).After-span_by-span).start_is h.0 h.1 c.requires.2

pub overflow_add-span : goal.overflow_add-span
overflow_add-span c = let h = spans (goal.at.overflow_add-span c).After-span_by-span in omega arith
