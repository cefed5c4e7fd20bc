-- What each number is given for, for a day and at closing, by ≤, < and ≡, where no number before it in the call's order
-- is given (Rules 8.1 and 8.2). The state c. An opening's rows stand in terms, specs/Rows. A day's are those of its run
-- (readings, Rows), but for 13, which a state with a sum that no legal days have answers, too (Rule 9.6).
use Rattle.std.specs.Prelude.{◌≡◌, List, ℕ, ◌≤◌, ◌<◌}
use Rattle.answers.specs.Ruling.{customer_most}
use Rattle.dates.specs.Dates.{year_days}
use Rattle.readings.specs.declared.Run.TheVariants.{Year}
use Rattle.readings.specs.Rows.{NextDay, NextRow}
use Rattle.tariff.specs.Rows.{JudgeRow}
use Rattle.customer_days.specs.declared.Customer.{Customer}
use Rattle.customer_days.specs.Days.{sum_most}

-- a day that fits: the next one of the year, for a state whose sum days can have
pub record DayFits (c : Customer) (day : List ℕ) : Type 0 where
  pub next : NextDay (Year c.terms.rates.year) c.seen day
  pub fair : c.figures.sum ≤ sum_most c.seen

pub data CustomerDayRow (c : Customer) (day : List ℕ) : ℕ → Type 0 where
  over : sum_most c.seen < c.figures.sum → CustomerDayRow c day 13
  next :
      {n : ℕ}
      → c.figures.sum ≤ sum_most c.seen
      → NextRow (Year c.terms.rates.year) customer_most c.seen day n
      → CustomerDayRow c day n

-- closing: 13 where not all days are in, else what the decision over the figures is given for
pub data CustomerCloseRow (c : Customer) : ℕ → Type 0 where
  early : (c.seen ≡ year_days c.terms.rates.year → ⊥) → CustomerCloseRow c 13
  judged :
      {n : ℕ}
      → c.seen ≡ year_days c.terms.rates.year
      → JudgeRow c.terms.edition c.figures c.terms.rates n
      → CustomerCloseRow c n
