-- `day_text::text` meets its contract, a law for each return.
-- Assumes nothing.
use mathlib.Core.Path.{◌≡◌, sym, ap, ◌∙◌}
use mathlib.Core.Bool.{false}
use native.Mathlib.Omega.{arith}
use Rattle.std.specs.Prelude.{Err}
use Rattle.calendar.specs.Answer.{said_of_day}
use Rattle.texts.proofs.Text.{put_as}
use Rattle.day_text.specs.Asked.{no_dates}
use Rattle.day_text.specs.Text.{wrong_line, usage_line}
use Rattle.day_text.proofs.Laws.{line_long, usage_printed, day_printed, wrong_printed}
use Rattle.day_text.proofs.text.Goals.{After-answer}
use Rattle.day_text.proofs.text.Goals as goal

pub returns-then-no_dates : goal.returns-then-no_dates
unfolding usage_line
returns-then-no_dates c =
    put_as (usage_printed _ (sym c.no_dates.ensures ∙ c.if-no_dates.true)) c.add_bytes.ensures

-- once there are dates
dates : (e : After-answer) → no_dates e.args.b.now ≡ false
dates e = sym e.no_dates.ensures ∙ e.if-no_dates.false

pub day_line-requires : goal.day_line-requires
day_line-requires c = line_long _ (dates (goal.at.day_line-requires c).After-answer)

pub returns-in-Ok : goal.returns-in-Ok
returns-in-Ok c =
    let said = sym (ap said_of_day c.in-Ok.is) ∙ c.answer.ensures in
    put_as (day_printed _ (dates (goal.at.returns-in-Ok c).After-answer) c.in-Ok.kind said) c.day_line.ensures

pub returns-in-Err-YearOut : goal.returns-in-Err-YearOut
unfolding wrong_line
returns-in-Err-YearOut c =
    let said = sym (ap said_of_day (c.in-Err-YearOut.is ∙ ap Err c.in-Err-YearOut.field-0-is)) ∙ c.answer.ensures in
    put_as (wrong_printed _ (dates (goal.at.returns-in-Err-YearOut c).After-answer) 1 (λ e. omega (arith, e)) said) c.add_bytes-in-Err-YearOut.ensures

pub returns-in-Err-BadList : goal.returns-in-Err-BadList
unfolding wrong_line
returns-in-Err-BadList c =
    let said = sym (ap said_of_day (c.in-Err-BadList.is ∙ ap Err c.in-Err-BadList.field-0-is)) ∙ c.answer.ensures in
    put_as (wrong_printed _ (dates (goal.at.returns-in-Err-BadList c).After-answer) 3 (λ e. omega (arith, e)) said) c.add_bytes-in-Err-BadList.ensures

pub returns-in-Err-DayOut : goal.returns-in-Err-DayOut
unfolding wrong_line
returns-in-Err-DayOut c =
    let said = sym (ap said_of_day (c.in-Err-DayOut.is ∙ ap Err c.in-Err-DayOut.field-0-is)) ∙ c.answer.ensures in
    put_as (wrong_printed _ (dates (goal.at.returns-in-Err-DayOut c).After-answer) 13 (λ e. omega (arith, e)) said) c.add_bytes-in-Err-DayOut.ensures
