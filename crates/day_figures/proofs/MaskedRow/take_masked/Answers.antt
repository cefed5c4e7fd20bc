-- `day_figures::MaskedRow::take_masked` meets its contract: the day's in-window peak counts where it is the year's
-- first or higher than all before.
-- Assumes nothing.
use mathlib.Core.Path.{◌≡◌, refl, ◌∙◌}
use native.Mathlib.Omega.{arith}
use borrow.Author.Tests.{leb-true, ltb-true}
use lib.ListN.{length}
use Rattle.ranges.specs.Ranges.{largest_in}
use Rattle.ranges.proofs.Bools.{both}
use Rattle.day_figures.specs.Day.{alone, in_row}
use Rattle.day_figures.proofs.Search.{first_found}
use Rattle.day_figures.proofs.OneDay.{masked_in, first_in, taken_old, taken_first}
use borrow.Author.Rules.{rules}
use Rattle.day_figures.proofs.MaskedRow.take_masked.Goals.{After-masked_usual-high}
use Rattle.day_figures.proofs.MaskedRow.take_masked.Goals as goal

-- the masks leave what counts
high_in :
    (m : After-masked_usual-high)
    → let a = m.args in
    m.masked_usual-high.result ≡ largest_in (in_row (length a.day.now) a.self.now.quarters.now) (alone a.day.now) (length a.day.now)
high_in m =
    let a = m.args in
    let small = m.shared_slice_known-1.given in
    m.masked_usual-high.ensures
    ∙ masked_in a.self.now.quarters.now a.day.now m.requires.usual (λ k. omega (arith, small k)) m.args.self.now.masked

pub returns-then-f-high : goal.returns-then-f-high
returns-then-f-high c =
    let a = c.args in
    let fits = c.requires in
    let low = both _ _ c.if-f-high.true in
    fits.next_is
    ∙ taken_old (in_row (length a.day.now) a.self.now.quarters.now) a.d a.day.now a.f refl
    (high_in (goal.at.returns-then-f-high c).After-masked_usual-high) low.0
    (omega (arith, leb-true, ltb-true))

pub high_at-requires : goal.high_at-requires
high_at-requires c =
    let a = c.args in
    let fits = c.requires in
    (fits.on, λ l. absurd (omega (arith, fits.usual)), (first_found a.self.now.quarters.now a.day.now c.masked_usual-high.result c.first_in.ensures).1)

pub returns : goal.returns
returns c =
    let a = c.args in
    let fits = c.requires in
    c.high_at.ensures
    ∙ taken_first (in_row (length a.day.now) a.self.now.quarters.now) a.d a.day.now a.f refl (high_in (goal.at.returns c).After-masked_usual-high)
    ((first_found a.self.now.quarters.now a.day.now c.masked_usual-high.result c.first_in.ensures).0
    ∙ first_in a.self.now.quarters.now a.day.now fits.usual c.masked_usual-high.result) fits.next_is
    (λ t. let u = rw t at c.if-f-high.false in search rules)
