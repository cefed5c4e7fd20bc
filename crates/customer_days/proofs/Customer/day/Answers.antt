-- `customer_days::Customer::day` meets its contract: a refusal hands back the state, and a day that is not refused fits
-- it. Assumes nothing.
use mathlib.Core.Path.{◌≡◌, sym, ap, ◌∙◌}
use Rattle.answers.specs.Said.{Said, only}
use Rattle.tariff.specs.Answers.{said_of}
use Rattle.tariff.proofs.Taken.{untaken}
use Rattle.customer_days.specs.Days.{customer_day_answer}
use Rattle.customer_days.proofs.Exactly.{day_fits, day_zero}
use Rattle.customer_days.proofs.Steps.{day_said, day_refused, day_taken_law}
use Rattle.customer_days.proofs.Customer.day.Goals.{After-day_answer-answer, In-Taken}
use Rattle.customer_days.proofs.Customer.day.Goals as goal

answer_at : (e : After-day_answer-answer) → let a = e.args in said_of e.day_answer-answer.result ≡ customer_day_answer a.self a.day.now
answer_at e = let a = e.args in day_said a.self a.day.now e.day_answer-answer.ensures

taken_at : (e : In-Taken) → let a = e.args in only 0 ≡ customer_day_answer a.self a.day.now
taken_at e =
    let a = e.args in
    ap said_of (sym e.in-Taken.is) ∙ day_said a.self a.day.now e.day_answer-answer.ensures

pub returns-in_default : goal.returns-in_default
returns-in_default c =
    let a = c.args in
    let e = answer_at (goal.at.returns-in_default c).After-day_answer-answer in
    let z =
    untaken {d = c.day_answer-answer.result} e (day_zero a.self a.day.now)
    c.in_default.not-Taken
    in
    record { said = e; state = day_refused a.self a.day.now _ z e }

pub add-requires : goal.add-requires
add-requires c =
    let a = c.args in
    day_fits a.self a.day.now (sym (ap (λ (s : Said). s.number) (taken_at c)))

pub returns : goal.returns
returns c =
    let a = c.args in
    record {
      said = answer_at (goal.at.returns c).After-day_answer-answer;
      state = day_taken_law a.self a.day.now (taken_at (goal.at.returns c).In-Taken) c.add.ensures;
    }
