use mathlib.Core.Path.{◌≡◌, refl, sym, ap, ◌∙◌}
use mathlib.Core.Bool.{Bool, false}
use mathlib.Core.List.{List}
use Prim.Native.Nat.{◌+◌, ◌-◌, ◌≤◌, ◌<◌}
use native.Mathlib.Omega.{arith}
use lib.ListN.{length, get_or, take, drop}
use Rattle.std.specs.Prelude.{Ok}
use Rattle.readings.specs.Runs.{len_by, start_by}
use Rattle.readings.proofs.Spans.{lens_over, starts_more, starts_most, starts_below}
use Rattle.readings.proofs.Runs.{span_start}
use Rattle.readings.proofs.Part.{cut_at, cut_long}
use Rattle.tariff.specs.declared.Figures.{Figures}
use Rattle.day_figures.specs.Day.{alone, with_day, row_if, day_most, sum_end, days_out, with_days}
use Rattle.day_figures.proofs.Fits.{has_room, days_out_law, days_other, days_fit}
use Rattle.day_figures.proofs.Days.{days_none, days_more, days_sum}
use Rattle.day_figures.proofs.take_days.Goals.{After-len_by, Else-days_out, Else-series-span_by, In-loop-k}
use Rattle.day_figures.proofs.take_days.Goals as goal

in_at : (n : Else-days_out) → let a = n.args in days_out a.days a.from (length a.flags.now) a.f.sum ≡ false
in_at n = sym n.days_out.ensures ∙ n.if-days_out.false

series_long :
    (o : Else-series-span_by)
    → let a = o.args in
    length a.series.now ≡ start_by a.change a.days
series_long o = o.if-series-span_by.false ∙ span_start _ _ o.span_by.ensures

-- a day of the loop is one of the series', its number fits 16 bits, and the sum has room for it
day_left : (i : In-loop-k) → let a = i.args in a.from + i.loop-k.k < a.days
day_left i = omega (arith, (has_room _ _ _ _ (sym i.days_out.ensures ∙ i.if-days_out.false)).left)

numbered : (i : In-loop-k) → i.args.from + i.loop-k.k < 65535
numbered i = omega (arith, day_left i, i.ranges.days.fits)

day_room : (i : In-loop-k) → i.loop-k.figures.sum + day_most < sum_end
day_room i =
    let at = i.loop-k in
    let a = i.args in
    let is = ap (λ (f : Figures). f.sum) at.invariant.2 in
    let small = i.shared_slice_known-3-1.given in
    omega (
      arith,
      (has_room _ _ _ _ (sym i.days_out.ensures ∙ i.if-days_out.false)).roomy,
      is,
      days_sum a.f a.change a.from a.flags.now a.row.now a.series.now (λ j. omega (arith, small j)) at.k,
    )

-- its readings stand within the series, so that their places fit 64 bits
held :
    (e : After-len_by)
    → (e.loop-k.start + e.len_by.result ≤ length e.args.series.now) × (e.loop-k.start + e.len_by.result ≤ 6553500)
held e =
    let a = e.args in
    let long = (e.if-series-span_by.false ∙ span_start _ _ e.span_by.ensures) in
    let below = starts_below a.change a.days (a.from + e.loop-k.k) (omega (arith, (has_room _ _ _ _ (sym e.days_out.ensures ∙ e.if-days_out.false)).left)) in
    let inside : e.loop-k.start + e.len_by.result ≤ length a.series.now = omega (arith, long, below, e.loop-k.invariant.1, e.len_by.ensures) in
    (inside, omega (arith, inside, long, starts_most a.change a.days, e.ranges.days.fits))

-- and are as many as it has
day_long :
    (e : After-len_by)
    → let a = e.args in
    let start = e.loop-k.start in
    length (take (start + e.len_by.result - start) (drop start a.series.now)) ≡ len_by a.change (a.from + e.loop-k.k)
day_long e =
    let a = e.args in
    let start = e.loop-k.start in
    cut_long a.series.now {size = start + e.len_by.result - start} {start = start} {len = len_by a.change (a.from + e.loop-k.k)} refl
    (omega (arith, e.len_by.ensures)) (omega (arith, (held e).0))

pub take_any-figures-requires : goal.take_any-figures-requires
take_any-figures-requires c =
    let a = c.args in (
      numbered (goal.at.take_any-figures-requires c).In-loop-k,
      lens_over a.change (a.from + c.loop-k.k) (day_long (goal.at.take_any-figures-requires c).After-len_by),
      day_room (goal.at.take_any-figures-requires c).In-loop-k,
    )

pub overflow_step-k : goal.overflow_step-k
overflow_step-k c =
    omega (arith, numbered (goal.at.overflow_step-k c).In-loop-k)

pub loop-k-preserved : goal.loop-k-preserved
loop-k-preserved c =
    let at = c.loop-k in
    let a = c.args in
    let size = at.start + c.len_by.result - at.start in
    let part = cut_at a.series.now {size = size} {len = len_by a.change (a.from + at.k)} at.invariant.1 (omega (arith, c.len_by.ensures)) in
    let day = take size (drop at.start a.series.now) in
    let on : a.from + at.k + 1 ≡ a.from + (at.k + 1) = omega arith in (
      omega arith,
      omega (arith, at.invariant.1, c.len_by.ensures, starts_more a.change (a.from + at.k), ap (start_by a.change) on),
      c.take_any-figures.ensures
          ∙ ap (λ (r : List Bool). with_day at.figures (length day) (a.from + at.k) (row_if (get_or a.flags.now at.k false) r) (alone day)) c.new-masked.ensures
          ∙ days_more a.f a.change a.from a.flags.now a.row.now a.series.now at.k
          day at.invariant.2 (day_long (goal.at.loop-k-preserved c).After-len_by) part,
    )

pub returns-then-series-span_by : goal.returns-then-series-span_by
returns-then-series-span_by c =
    let start = span_start _ _ c.span_by.ensures in
    days_other _ _ _ _ _ _ _ (in_at (goal.at.returns-then-series-span_by c).Else-days_out) (λ l. c.if-series-span_by.true (l ∙ sym start))

pub loop-k-init : goal.loop-k-init
loop-k-init c =
    let a = c.args in
    let none : a.from ≡ a.from + 0 = omega arith in
    (omega arith, span_start _ _ c.span_by-start.ensures ∙ ap (start_by a.change) none, days_none _ _ _ _ _ _)

pub returns : goal.returns
returns c =
    let at = c.loop-k in
    let a = c.args in
    let all : at.k ≡ length a.flags.now = omega arith in
    ap Ok (at.invariant.2 ∙ ap (with_days a.f a.change a.from a.flags.now a.row.now a.series.now) all)
    ∙ days_fit _ _ _ _ _ _ _ (in_at (goal.at.returns c).Else-days_out) (series_long (goal.at.returns c).Else-series-span_by)

pub returns-then-days_out : goal.returns-then-days_out
returns-then-days_out c = days_out_law _ _ _ _ _ _ _ (sym c.days_out.ensures ∙ c.if-days_out.true)

pub overflow_cast-d : goal.overflow_cast-d
overflow_cast-d c = omega (arith, numbered c)

pub overflow_add-d : goal.overflow_add-d
overflow_add-d c = omega (arith, numbered c)

pub overflow_add-end : goal.overflow_add-end
overflow_add-end c = let h = held c in omega arith

pub offset_bounds-series-start : goal.offset_bounds-series-start
offset_bounds-series-start c = let h = held c in omega arith

pub slice_bounds-day-end : goal.slice_bounds-day-end
slice_bounds-day-end c = (held c).0
