-- `customer::decide` meets its contract: what opening refuses, else what the series is answered under the terms that it
-- hands over; the peak tells whether a reading is illegal, so the series is read once.
-- Assumes nothing.
use mathlib.Core.Path.{◌≡◌, refl, sym, ap, ◌∙◌}
use native.Mathlib.Omega.{arith}
use lib.ListN.{length}
use Rattle.answers.specs.Said.{Said, only}
use Rattle.dates.specs.Dates.{year_days}
use Rattle.readings.specs.declared.Run.TheVariants.{Year}
use Rattle.readings.specs.Runs.{run_readings}
use Rattle.readings.proofs.Days.{series_length}
use Rattle.terms.specs.Basis.{basis}
use Rattle.terms.specs.Opening.{said_of_opening, terms_beside}
use Rattle.terms.proofs.Answered.{refuses}
use Rattle.year_figures.proofs.Years.{year_told, year_refused}
use Rattle.customer.specs.Answers.{figures_under, whole_answer, decide_answer}
use Rattle.customer.proofs.Answered.{decide_open, decide_under, whole_series, whole_bad, whole_legal}
use Rattle.customer.proofs.decide.Goals.{In-Ok, In-Ok-collected}
use Rattle.customer.proofs.decide.Goals as goal

pub returns-in-Err : goal.returns-in-Err
returns-in-Err c =
    let a = c.args in
    let said = ap said_of_opening (sym c.in-Err.is) ∙ c.«open».ensures.said in
    c.into.ensures
    ∙ decide_open (basis a.editions a.sheet.now a.holidays.now a.prices a.option) a.series.now _ (refuses c.in-Err.refusal) said

-- what the series is answered under the terms that were opened
under :
    (e : In-Ok) {said : Said}
    → let a = e.args in
    said ≡ whole_answer e.in-Ok.terms a.series.now
    → said ≡ decide_answer (basis a.editions a.sheet.now a.holidays.now a.prices a.option) a.series.now
under e =
    let a = e.args in
    decide_under (basis a.editions a.sheet.now a.holidays.now a.prices a.option) a.series.now
    (ap said_of_opening (sym e.in-Ok.is) ∙ e.«open».ensures.said)
    (ap terms_beside (sym e.in-Ok.is) ∙ e.«open».ensures.terms)

pub returns-in_default : goal.returns-in_default
returns-in_default c =
    let t = c.in-Ok.terms in
    let xs = c.args.series.now in
    let other = year_refused t.rates.year t.carrying t.windows xs c.year_figures-collected.ensures c.in_default.is in
    under (goal.at.returns-in_default c).In-Ok (whole_series t xs (only 4) refl (series_length _ _ xs other))

-- the series has the year's length, and the figures are those of all its days
told :
    (e : In-Ok-collected)
    → let t = e.in-Ok.terms in
    (length e.args.series.now ≡ run_readings (Year t.rates.year))
    × (e.in-Ok-collected.figures ≡ figures_under t e.args.series.now (year_days t.rates.year))
told e =
    let t = e.in-Ok.terms in
    year_told t.rates.year t.carrying t.windows e.args.series.now e.year_figures-collected.ensures e.in-Ok-collected.is

pub returns-then-figures-gt-CUSTOMER_MOST : goal.returns-then-figures-gt-CUSTOMER_MOST
returns-then-figures-gt-CUSTOMER_MOST c =
    let w = goal.at.returns-then-figures-gt-CUSTOMER_MOST c in
    let known = told w.In-Ok-collected in
    under w.In-Ok (whole_bad c.in-Ok.terms c.args.series.now known.0 known.1 (omega arith) c.first_illegal-place.ensures)

pub returns : goal.returns
returns c =
    let w = goal.at.returns c in
    let known = told w.In-Ok-collected in
    under w.In-Ok (whole_legal c.in-Ok.terms c.args.series.now known.0 known.1 (omega arith) c.judge.ensures)
