-- `day_figures::take_other` meets its contract, by the day's length.
-- Assumes nothing.
use mathlib.Core.Path.{refl, ap, ◌∙◌}
use borrow.Author.Tests.{ne_eqb}
use lib.ListN.{length}
use Rattle.std.specs.Prelude.{Ok, unwrap_or}
use Rattle.tariff.specs.declared.Figures.{Figures}
use Rattle.day_figures.specs.Day.{in_row}
use Rattle.day_figures.specs.Passes.{Sized, high_at}
use Rattle.day_figures.proofs.Fits.{day_sized}
use Rattle.day_figures.proofs.OneDay.{sized_most, counts_empty, taken_none}
use Rattle.day_figures.proofs.take_other.Goals.{Else-day}
use Rattle.day_figures.proofs.take_other.Goals as goal

pub returns-then-day : goal.returns-then-day
returns-then-day c = rw (ne_eqb _ _ c.requires.2, c.if-day.true)

sized : (c : Else-day) → Sized c.args.day.now
sized c = day_sized c.args.day.now (rw (ne_eqb _ _ c.requires.2, c.if-day.false))

-- by a row without quarters nothing counts
pub returns-then-row-eq0 : goal.returns-then-row-eq0
returns-then-row-eq0 c =
    let a = c.args in
    let none = counts_empty (length a.day.now) a.row.now c.if-row-eq0.true in
    let plain = taken_none (in_row (length a.day.now) a.row.now) a.d a.day.now a.f refl none in
    rw (ne_eqb _ _ c.requires.2, c.if-day.false) (ap Ok (c.plain_day-next.ensures ∙ plain))

pub returns : goal.returns
returns c =
    let a = c.args in
    let taken =
    c.high_at.ensures
    ∙ ap (λ (g : Figures). high_at g a.d a.day.now (unwrap_or c.new_high.result (length a.day.now))) c.plain_day-next.ensures
    ∙ c.new_high.ensures.0.is a.d in
    rw (ne_eqb _ _ c.requires.2, c.if-day.false) (ap Ok taken)

pub plain_day-next-requires : goal.plain_day-next-requires
plain_day-next-requires c = (sized_most c.args.day.now (sized c), c.requires.1)

pub high_at-requires : goal.high_at-requires
high_at-requires c = (c.requires.0, sized (goal.at.high_at-requires c).Else-day, c.new_high.ensures.1)
