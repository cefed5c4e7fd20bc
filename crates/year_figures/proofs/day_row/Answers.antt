-- `year_figures::day_row` meets its contract, a law for each return.
-- Assumes nothing.
use mathlib.Core.Path.{◌≡◌, sym, ◌∙◌}
use mathlib.Core.Bool.{false}
use Prim.Native.Nat.{◌≤◌}
use borrow.Author.Rules.{rules}
use borrow.Author.Tests.{ltb-false}
use lib.ListN.{length, get_or, get_or-eq_default}
use Rattle.year_figures.proofs.Rows.{row_none, row_some}
use Rattle.year_figures.proofs.day_row.Goals as goal

pub returns-in_default : goal.returns-in_default
returns-in_default c =
    let a = c.args in
    let past : length a.carrying.now ≤ a.d = ltb-false _ _ (sym c.in_default.ensures.lookup.0) in
    row_none a.year a.carrying.now a.windows.now a.d (get_or-eq_default a.carrying.now false past)

pub returns-then-carries : goal.returns-then-carries
returns-then-carries c =
    let a = c.args in
    let flag : get_or a.carrying.now a.d false ≡ c.in-Some.carries.now = search rules in
    c.season_row-row.ensures ∙ row_some a.year a.carrying.now a.windows.now a.d (flag ∙ c.if-carries.true)

pub returns-else-carries : goal.returns-else-carries
returns-else-carries c =
    let a = c.args in
    let flag : get_or a.carrying.now a.d false ≡ c.in-Some.carries.now = search rules in
    row_none a.year a.carrying.now a.windows.now a.d (flag ∙ c.if-carries.false)
