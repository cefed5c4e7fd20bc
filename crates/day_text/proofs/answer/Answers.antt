-- `day_text::answer` meets its contract, a law for each return.
-- Assumes nothing.
use mathlib.Core.Path.{◌≡◌, sym, ap, ◌∙◌}
use mathlib.Core.List.{List}
use Prim.Native.Nat.{ℕ}
use native.Mathlib.Omega.{arith}
use lib.ListN.{length, take}
use lib.Seq.{length-take-le}
use Rattle.editions.specs.Editions.{todays, edition_of, year_out}
use Rattle.calendar.specs.Answer.{calendar_answer}
use Rattle.day_text.specs.Asked.{year_at, listed_days}
use Rattle.day_text.proofs.Laws.{year_told, date_told, calendar_told}
use borrow.Author.Rules.{rules}
use Rattle.day_text.proofs.answer.Goals.{After-listed_days-list, After-year_out}
use Rattle.day_text.proofs.answer.Goals as goal

-- what is asked
abbrev asked : After-listed_days-list → List ℕ
asked e =
    e.args.b.now

-- the year's test
tested : (e : After-year_out) → e.year_out.result ≡ year_out todays (year_at e.args.b.now 0)
tested e = e.year_out.ensures ∙ (λ i. year_out (e.todays-editions.ensures i) (e.year_at-year.ensures i))

pub returns-then-no_such_date : goal.returns-then-no_such_date
returns-then-no_such_date c =
    date_told _ (sym (tested (goal.at.returns-then-no_such_date c).After-year_out) ∙ c.if-year_out.false) (sym c.no_such_date.ensures ∙ c.if-no_such_date.true)

pub slice_bounds-day_kind-end : goal.slice_bounds-day_kind-end
slice_bounds-day_kind-end c =
    let long : length c.listed_days-list.result ≡ 41 = search rules in
    sym (length-take-le c.list_count-n.result c.listed_days-list.result (omega arith))

-- the listed days, as many as are taken
listed_are : (e : After-listed_days-list) → take e.list_count-n.result e.listed_days-list.result ≡ listed_days (asked e)
listed_are e = ap (λ (n : ℕ). take n e.listed_days-list.result) e.list_count-n.ensures.0 ∙ e.listed_days-list.ensures

pub returns : goal.returns
returns c =
    let w = goal.at.returns c in
    let year = c.year_at-year.ensures in
    c.day_kind.ensures
    ∙ (λ i. calendar_answer (edition_of (c.todays-editions.ensures i) (year i)) (year i) (listed_are w.After-listed_days-list i) (c.day_at.ensures i))
    ∙ calendar_told _ (sym (tested w.After-year_out) ∙ c.if-year_out.false) (sym c.no_such_date.ensures ∙ c.if-no_such_date.false)

pub returns-then-year_out : goal.returns-then-year_out
returns-then-year_out c = year_told _ (sym (tested (goal.at.returns-then-year_out c).After-year_out) ∙ c.if-year_out.true)
