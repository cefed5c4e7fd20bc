-- `calendar::day_kind` meets its contract, a law for each return; each test that failed on the way is read once.
-- Assumes nothing.
use mathlib.Core.Path.{◌≡◌, sym, ◌∙◌}
use mathlib.Core.Bool.{false}
use Rattle.answers.specs.Ruling.{lacks_year}
use Rattle.editions.specs.Editions.{edition_of}
use Rattle.holidays.specs.Holidays.{bad_holidays}
use Rattle.calendar.specs.Answer.{day_out}
use Rattle.calendar.proofs.Marked.{by_marks}
use Rattle.calendar.proofs.Answers.{day_inside, said_year, said_list, said_day, said_kind}
use Rattle.calendar.proofs.day_kind.Goals.{Else-bad_holidays, Else-day_out, Else-year_out}
use Rattle.calendar.proofs.day_kind.Goals as goal

year_at : (e : Else-year_out) → lacks_year (edition_of e.args.editions e.args.year) e.args.year ≡ false
year_at e = sym e.year_out.ensures ∙ e.if-year_out.false

list_at : (e : Else-bad_holidays) → let a = e.args in bad_holidays a.year a.holidays.now ≡ false
list_at e = sym e.bad_holidays.ensures ∙ e.if-bad_holidays.false

day_at : (e : Else-day_out) → let a = e.args in day_out a.year a.day ≡ false
day_at e = sym e.day_out.ensures ∙ e.if-day_out.false

pub returns-then-bad_holidays : goal.returns-then-bad_holidays
returns-then-bad_holidays c =
    let w = goal.at.returns-then-bad_holidays c in
    said_list _ _ _ _ (year_at w.Else-year_out) (sym c.bad_holidays.ensures ∙ c.if-bad_holidays.true)

pub returns-then-day_out : goal.returns-then-day_out
returns-then-day_out c =
    let w = goal.at.returns-then-day_out c in
    said_day _ _ _ _ (year_at w.Else-year_out) (list_at w.Else-bad_holidays) (sym c.day_out.ensures ∙ c.if-day_out.true)

pub returns : goal.returns
returns c =
    said_kind _ _ _ _ (year_at (goal.at.returns c).Else-year_out) (list_at (goal.at.returns c).Else-bad_holidays) (day_at (goal.at.returns c).Else-day_out)
    (c.kind.ensures ∙ by_marks _ _ _ _ c.marks-m.ensures (day_inside _ _ (day_at (goal.at.returns c).Else-day_out)).1)

pub returns-then-year_out : goal.returns-then-year_out
returns-then-year_out c = said_year _ _ _ _ (sym c.year_out.ensures ∙ c.if-year_out.true)

pub kind-requires : goal.kind-requires
kind-requires c = day_inside _ _ (day_at (goal.at.kind-requires c).Else-day_out)
