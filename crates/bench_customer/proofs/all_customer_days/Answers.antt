use mathlib.Core.Path.{◌≡◌, sym, ap, ◌∙◌}
use Prim.Native.Nat.{ℕ, ◌+◌}
use native.Mathlib.Omega.{arith}
use Rattle.dates.specs.Dates.{year_days}
use Rattle.editions.specs.Editions.{todays}
use Rattle.readings.specs.declared.Run.TheVariants.{Year}
use Rattle.readings.specs.Days.{offered, days_of}
use Rattle.readings.specs.Part.{run_part}
use Rattle.terms.specs.Basis.{basis}
use Rattle.customer_days.specs.declared.Customer.{Customer}
use Rattle.customer_days.specs.Days.{day_customer}
use Rattle.bench_customer.specs.Days.{customer_after_days}
use Rattle.readings.proofs.Given.{days_none, days_more}
use Rattle.bench_customer.proofs.all_customer_days.Goals as goal

pub loop-d-init : goal.loop-d-init
loop-d-init c = (c.year_days-d-end.ensures, omega arith, sym (days_none day_customer _ _ _))

pub loop-d-preserved : goal.loop-d-preserved
loop-d-preserved c =
    let at = c.loop-d in
    let series = c.args.series.now in
    let run = Year c.«open».result.customer.terms.rates.year in (
      at.invariant.0,
      omega arith,
      c.day.ensures.state
          ∙ ap (day_customer at.state) (c.run_part-day.ensures ∙ ap (λ (n : ℕ). run_part run series (n + 1)) c.from.ensures)
          ∙ ap (λ (s : Customer). day_customer s (run_part run series (at.d + 1))) at.invariant.2
          ∙ sym (days_more day_customer run _ series at.d),
    )

pub returns : goal.returns
returns c =
    let at = c.loop-d in
    let a = c.args in
    let same = rw c.todays.ensures at c.«open».ensures.state in
    let days : at.d ≡ year_days c.«open».result.customer.terms.rates.year = omega arith in
    let after : Customer → Customer =
    λ s. offered day_customer s (days_of (Year s.terms.rates.year) a.series.now at.d) in
    at.invariant.2
    ∙ ap after same
    ∙ ap (customer_after_days (basis todays a.sheet.now a.holidays.now a.prices a.option) a.series.now)
    (days ∙ ap (λ (s : Customer). year_days s.terms.rates.year) same)
