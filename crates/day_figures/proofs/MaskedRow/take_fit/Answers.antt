-- `day_figures::MaskedRow::take_fit` meets its contract: a day of which no position counts is taken in plainly.
-- Assumes nothing.
use mathlib.Core.Path.{refl, sym, ap, ◌∙◌}
use mathlib.Core.Bool.{Bool, ◌&&◌}
use native.Mathlib.Omega.{arith}
use lib.ListN.{length}
use Rattle.ranges.proofs.Bools.{both}
use Rattle.day_figures.specs.Day.{alone, in_row, with_day, row_if}
use Rattle.day_figures.specs.Passes.{some_left}
use Rattle.day_figures.proofs.OneDay.{counts_none, taken_none}
use Rattle.day_figures.proofs.MaskedRow.take_fit.Goals as goal

pub returns-then-flag-self : goal.returns-then-flag-self
returns-then-flag-self c =
    let a = c.args in
    let set = (both a.flag _ c.if-flag-self.true).0 in
    c.take_masked.ensures
    ∙ ap (λ (b : Bool). with_day a.f (length a.day.now) a.d (row_if b a.self.now.quarters.now) (alone a.day.now)) (sym set)

pub returns : goal.returns
returns c =
    let a = c.args in
    let fits = c.requires in
    let some = c.args.self.now.tells ∙ ap some_left c.args.self.now.masked in
    let off = ap (λ (b : Bool). a.flag && b) (sym some) ∙ c.if-flag-self.false in
    let none = counts_none (length a.day.now) a.self.now.quarters.now a.flag (λ h. absurd (omega (arith, h, fits.usual))) off in
    fits.next_is
    ∙ taken_none (in_row (length a.day.now) (row_if a.flag a.self.now.quarters.now)) a.d a.day.now a.f refl none
