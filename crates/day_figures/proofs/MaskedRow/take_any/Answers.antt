-- `day_figures::MaskedRow::take_any` meets its contract, by the day's length.
-- Assumes nothing.
use mathlib.Core.Path.{ap, ◌∙◌}
use native.Mathlib.Omega.{arith}
use lib.ListN.{length}
use Rattle.std.specs.Prelude.{unwrap_or}
use Rattle.tariff.specs.declared.Figures.{Figures}
use Rattle.day_figures.specs.Passes.{high_at}
use Rattle.day_figures.proofs.OneDay.{sized_most}
use Rattle.day_figures.proofs.MaskedRow.take_any.Goals as goal

-- where H stands by the readings, the day is taken in
pub returns-then-day-ne-DAY_QUARTERS : goal.returns-then-day-ne-DAY_QUARTERS
returns-then-day-ne-DAY_QUARTERS c =
    let a = c.args in
    c.high_at.ensures
    ∙ ap (λ (g : Figures). high_at g a.d a.day.now (unwrap_or c.new_high.result (length a.day.now))) c.plain_day-other.ensures
    ∙ c.new_high.ensures.0.is a.d

pub take_fit-requires : goal.take_fit-requires
take_fit-requires c =
    let h = c.requires in
    record { on = h.0; usual = c.if-day-ne-DAY_QUARTERS.false; next_is = c.plain_day-next.ensures }

pub plain_day-other-requires : goal.plain_day-other-requires
plain_day-other-requires c = (sized_most c.args.day.now c.requires.1, c.requires.2)

pub high_at-requires : goal.high_at-requires
high_at-requires c = (c.requires.0, c.requires.1, c.new_high.ensures.1)

pub plain_day-next-requires : goal.plain_day-next-requires
plain_day-next-requires c = (omega (arith, c.if-day-ne-DAY_QUARTERS.false), c.requires.2)

pub returns : goal.returns
returns c = c.take_fit.ensures
