-- `day_figures::take_day` meets its contract, a law for each return.
-- Assumes nothing.
use mathlib.Core.Path.{◌≡◌, refl, sym, ap, ◌∙◌}
use mathlib.Core.Bool.{Bool, false}
use mathlib.Core.List.{List}
use Prim.Native.Nat.{◌+◌, ◌<◌}
use native.Mathlib.Omega.{arith}
use lib.ListN.{length}
use Rattle.std.specs.Prelude.{Ok}
use Rattle.dates.specs.Dates.{most_days}
use Rattle.day_figures.specs.Day.{alone, in_row, with_day, day_most, sum_end, days_out, day_taken}
use Rattle.day_figures.specs.Passes.{Fits}
use Rattle.day_figures.proofs.Fits.{has_room, day_out_law, day_by, day_fits}
use Rattle.day_figures.proofs.OneDay.{counts_empty, taken_none}
use Rattle.day_figures.proofs.take_day.Goals.{After-plain_day-next, Else-day-ne-DAY_QUARTERS, Else-days_out}
use Rattle.day_figures.proofs.take_day.Goals as goal

-- the day is not answered 13: its number fits 16 bits, and the sum has room for it
in_at : (e : Else-days_out) → let a = e.args in days_out most_days a.d 1 a.f.sum ≡ false
in_at e = sym e.days_out.ensures ∙ e.if-days_out.false

room : (e : Else-days_out) → let a = e.args in (a.d < 65535) × (a.f.sum + day_most < sum_end)
room e = let r = has_room _ _ _ _ (in_at e) in (omega (arith, r.left), omega (arith, r.roomy))

pub take_other-requires : goal.take_other-requires
take_other-requires c = let r = room (goal.at.take_other-requires c).Else-days_out in (r.0, r.1, c.if-day-ne-DAY_QUARTERS.true)

-- a usual day
usual :
    (e : Else-day-ne-DAY_QUARTERS)
    → let a = e.args in
    Ok (with_day a.f (length a.day.now) a.d a.row.now (alone a.day.now)) ≡ day_taken a.f a.d a.row.now a.day.now
usual e = day_fits _ _ _ _ (sym e.days_out.ensures ∙ e.if-days_out.false) (rw e.if-day-ne-DAY_QUARTERS.false refl)

fits :
    (p : After-plain_day-next)
    → let a = p.args in
    Fits a.f a.d a.day.now p.plain_day-next.result
fits p =
    let r = has_room _ _ _ _ (sym p.days_out.ensures ∙ p.if-days_out.false) in
    record { on = omega (arith, r.left); usual = p.if-day-ne-DAY_QUARTERS.false; next_is = p.plain_day-next.ensures }

-- by a row without quarters nothing counts
pub returns-then-row-eq0 : goal.returns-then-row-eq0
returns-then-row-eq0 c =
    let a = c.args in
    let none = counts_empty (length a.day.now) a.row.now c.if-row-eq0.true in
    let plain = taken_none (in_row (length a.day.now) a.row.now) a.d a.day.now a.f refl none in
    ap Ok ((fits (goal.at.returns-then-row-eq0 c).After-plain_day-next).next_is ∙ plain) ∙ usual (goal.at.returns-then-row-eq0 c).Else-day-ne-DAY_QUARTERS

pub take_fit-requires : goal.take_fit-requires
take_fit-requires c =
    fits (goal.at.take_fit-requires c).After-plain_day-next

pub returns : goal.returns
returns c =
    let a = c.args in
    let row = ap (λ (r : List Bool). with_day a.f (length a.day.now) a.d r (alone a.day.now)) c.new.ensures in
    ap Ok (c.take_fit.ensures ∙ row) ∙ usual (goal.at.returns c).Else-day-ne-DAY_QUARTERS

pub returns-then-days_out : goal.returns-then-days_out
returns-then-days_out c = day_out_law _ _ _ _ (sym c.days_out.ensures ∙ c.if-days_out.true)

pub returns-then-day-ne-DAY_QUARTERS : goal.returns-then-day-ne-DAY_QUARTERS
returns-then-day-ne-DAY_QUARTERS c = c.take_other.ensures ∙ day_by _ _ _ _ (in_at (goal.at.returns-then-day-ne-DAY_QUARTERS c).Else-days_out)

pub plain_day-next-requires : goal.plain_day-next-requires
plain_day-next-requires c = (omega (arith, c.if-day-ne-DAY_QUARTERS.false), (room (goal.at.plain_day-next-requires c).Else-days_out).1)
