-- `terms::open` meets its contract: a refusal stands beside the fixed terms, 0 beside those of the basis.
-- Assumes nothing.
use mathlib.Core.Path.{◌≡◌, sym, ap, ◌∙◌}
use Rattle.std.proofs.lemmas.Result.{err_from_is_err_and}
use Rattle.answers.specs.Said.{only}
use Rattle.day_kinds.specs.Kinds.{window_days}
use Rattle.sheet.specs.declared.Sheet.{Sheet}
use Rattle.sheet.specs.Answers.{ReadSaid, shown_of, read_of}
use Rattle.sheet.proofs.Exactly.{read_refuses}
use Rattle.terms.specs.Basis.{Basis, basis, basis_edition}
use Rattle.terms.proofs.Exactly.{open_meaning}
use Rattle.terms.proofs.Answered.{open_read, open_said, open_taken, refused}
use Rattle.terms.specs.Opening.{lists_answer, customer_open_answer}
use Rattle.terms.specs.declared.OpenRefusal.TheVariants.{BadHolidays, PriceOut}
use Rattle.terms.proofs.open.Goals.{After-read_by, After-bad_holidays}
use Rattle.terms.proofs.open.Goals as goal

-- the basis that is opened, and the edition that is picked
abbrev given : After-read_by → Basis
given e =
    let a = e.args in
    basis a.editions a.sheet.now a.holidays.now a.prices a.option

edition_at : (e : After-read_by) → e.pick-edition.result ≡ basis_edition (given e)
edition_at e = rw e.two_at.ensures at e.pick-edition.ensures

pub returns-in_err-meaning : goal.returns-in_err-meaning
returns-in_err-meaning c =
    let e = (goal.at.returns-in_err-meaning c).After-read_by in
    let k = given e in
    let read = rw (edition_at e) at (ap shown_of (sym c.in_err-meaning.was) ∙ e.read_by.ensures) in
    let given_back = err_from_is_err_and c.from_residual.result c.from_residual.ensures.1 in
    let said = open_read k _ (read_refuses c.in_err-meaning.field-0.0) (ap (λ (x : ReadSaid). x.answer) read) in
    rw given_back.1 (refused k given_back.0 (given_back.2 ∙ said))

-- the sheet that was read, and so what is answered of the lists
abbrev opened : After-bad_holidays → Basis
opened e =
    let a = e.args in
    basis a.editions a.sheet.now a.holidays.now a.prices a.option

sheet_at : (e : After-bad_holidays) → record { answer = only 0; sheet = e.in_ok-meaning.meaning } ≡ read_of (basis_edition (opened e)) (opened e).sheet
sheet_at e = rw (rw e.two_at.ensures at e.pick-edition.ensures) at (ap shown_of (sym e.in_ok-meaning.was) ∙ e.read_by.ensures)

lists_at : (e : After-bad_holidays) → lists_answer e.in_ok-meaning.meaning.year e.args.holidays.now e.args.prices ≡ customer_open_answer (opened e)
lists_at e = open_said (opened e) (sheet_at e)

pub returns-then-bad_holidays : goal.returns-then-bad_holidays
returns-then-bad_holidays c =
    let e = (goal.at.returns-then-bad_holidays c).After-bad_holidays in
    refused (opened e) BadHolidays (rw (sym c.bad_holidays.ensures ∙ c.if-bad_holidays.true) at (lists_at e))

pub returns-then-prices_out : goal.returns-then-prices_out
returns-then-prices_out c =
    let e = (goal.at.returns-then-prices_out c).After-bad_holidays in
    let legal = rw (sym c.bad_holidays.ensures ∙ c.if-bad_holidays.false) at (lists_at e) in
    refused (opened e) PriceOut (rw (sym c.prices_out.ensures ∙ c.if-prices_out.true) at legal)

pub returns : goal.returns
returns c =
    let e = (goal.at.returns c).After-bad_holidays in
    let k = opened e in
    let legal = rw (sym c.bad_holidays.ensures ∙ c.if-bad_holidays.false) at (lists_at e) in
    let opens = rw (sym c.prices_out.ensures ∙ c.if-prices_out.false) at legal in
    let meaning = open_meaning k (sheet_at e) opens in
    let carrying = c.window_days-carrying.ensures ∙ ap (λ (s : Sheet). window_days s.year k.holidays) meaning in
    record {
      said = opens;
      terms =
          (λ i. record {
            edition = edition_at (goal.at.returns c).After-read_by i;
            rates = record { year = (meaning i).year; level = (meaning i).level; option = k.option; prices = k.prices };
            windows = (meaning i).windows;
            carrying = carrying i;
          })
          ∙ open_taken k opens;
    }
