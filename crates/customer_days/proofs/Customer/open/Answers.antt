-- `customer_days::Customer::open` meets its contract: a year without a day under the terms that opening hands over, and
-- the fixed state beside a refusal. Assumes nothing.
use mathlib.Core.Path.{sym, ap, ◌∙◌}
use Rattle.terms.specs.Basis.{basis}
use Rattle.terms.specs.Opening.{said_of_opening, terms_beside}
use Rattle.terms.proofs.Answered.{refuses}
use Rattle.customer_days.proofs.Steps.{open_begins, open_shuts}
use Rattle.customer_days.proofs.Customer.open.Goals as goal

pub returns-in-Ok : goal.returns-in-Ok
returns-in-Ok c =
    let a = c.args in
    let k = basis a.editions a.sheet.now a.holidays.now a.prices a.option in
    let said = ap said_of_opening (sym c.in-Ok.is) ∙ c.«open».ensures.said in
    record { said = said; state = open_begins k (ap terms_beside (sym c.in-Ok.is) ∙ c.«open».ensures.terms) said }

pub returns-in-Err : goal.returns-in-Err
returns-in-Err c =
    let a = c.args in
    let k = basis a.editions a.sheet.now a.holidays.now a.prices a.option in
    let said = ap said_of_opening (sym c.in-Err.is) ∙ c.«open».ensures.said in
    let beside = c.no_terms.ensures ∙ ap terms_beside (sym c.in-Err.is) ∙ c.«open».ensures.terms in
    record { said = c.into.ensures ∙ said; state = open_shuts k beside _ (refuses c.in-Err.refusal) said }
