-- `customer_days::Customer::add` meets its contract: the day is taken in by the state's own terms; it fits, so taking
-- it refuses nothing. Assumes nothing.
use mathlib.Core.Path.{◌≡◌, ap, ◌∙◌}
use mathlib.Core.Bool.{false}
use Prim.Native.Nat.{◌+◌}
use native.Mathlib.Omega.{arith}
use Rattle.readings.specs.declared.Run.TheVariants.{Year}
use Rattle.dates.specs.Dates.{most_days}
use Rattle.readings.specs.Runs.{change_of}
use Rattle.readings.proofs.Runs.{days_most}
use Rattle.day_figures.specs.Day.{days_out}
use Rattle.day_figures.proofs.Fits.{room_is, day_taken_law, a_day}
use Rattle.year_figures.proofs.Rows.{row_taken}
use Rattle.customer_days.specs.Days.{taken_figures}
use Rattle.customer_days.proofs.Customer.add.Goals.{After-take_day-taking}
use Rattle.customer_days.proofs.Customer.add.Goals as goal

-- the day is one of the year's, and the sum has room for it
in_at :
    (e : After-take_day-taking)
    → let self = e.args.self in
    days_out most_days self.seen 1 self.figures.sum ≡ false
in_at e =
    let next = e.requires.next.left in
    room_is _ _ _ _
    (record {
      left = omega (arith, days_most (Year e.args.self.terms.rates.year));
      roomy = omega (arith, e.requires.fair, days_most (Year e.args.self.terms.rates.year));
    })

-- so its number fits 16 bits
pub overflow_add-result : goal.overflow_add-result
overflow_add-result c =
    omega (arith, c.requires.next.left, days_most (Year c.args.self.terms.rates.year))

pub returns : goal.returns
returns c =
    let w = goal.at.returns c in
    let self = c.args.self in
    let fits = day_taken_law _ _ _ _ (in_at w.After-take_day-taking) c.take_day-taking.ensures
    (a_day (change_of (Year self.terms.rates.year)) self.seen c.requires.next.long) in
    let row = row_taken self.terms.rates.year self.terms.carrying self.terms.windows self.seen self.figures _
    c.day_row-row.ensures c.requires.next.long in
    λ i. record {
      terms = self.terms;
      seen = self.seen + 1;
      figures = (c.unwrap_or.ensures ∙ ap taken_figures fits ∙ row) i;
    }
