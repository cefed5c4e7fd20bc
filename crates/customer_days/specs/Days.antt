-- A customer's year day by day: opening, a day, closing, and the state between them. Rules 8.2 and 9.3 to 9.6. Days
-- count from 0: the next day is day `seen`. What the opening answers stands in terms, specs/Opening. The basis k.
use Rattle.std.specs.Prelude.{◌≡◌, Result, Bool, cond, not, List, ℕ, ◌+◌, ◌*◌, ltb, eqb}
use Rattle.std.specs.Result.{result_unwrap_or}
use Rattle.answers.specs.Ruling.{customer_most}
use Rattle.answers.specs.Said.{Said, only, after}
use Rattle.dates.specs.Dates.{year_days}
use Rattle.readings.specs.declared.Run.TheVariants.{Year}
use Rattle.readings.specs.Runs.{most_readings, day_len}
use Rattle.readings.specs.Days.{shut_days, next_answer}
use Rattle.tariff.specs.declared.Figures.{Figures}
use Rattle.tariff.specs.Answers.{said_of}
use Rattle.terms.specs.declared.Terms.{Terms}
use Rattle.terms.specs.Basis.{Basis}
use Rattle.terms.specs.Opening.{customer_open_answer, terms_of, no_terms}
use Rattle.figures.specs.Figures.{no_figures, record_of, taken_in}
use Rattle.day_figures.specs.declared.TakingRefusal.{TakingRefusal}
use Rattle.day_figures.specs.Day.{alone}
use Rattle.customer.specs.Counts.{counts}
use Rattle.customer.specs.Answers.{judged}
use Rattle.customer_days.specs.declared.Customer.{Customer}
use Rattle.customer_days.specs.declared.Stepped.{Stepped}

-- an accepted opening holds no day; a refused one hands back one fixed state, which takes no day and never
-- closes.
abbrev pub fresh_customer : Terms → Customer
fresh_customer t = record { terms = t; seen = 0; figures = no_figures }

abbrev pub shut_customer : Customer
shut_customer = record { terms = no_terms; seen = shut_days; figures = no_figures }

unfoldable pub open_customer : Basis → Customer
open_customer k = after (customer_open_answer k) (fresh_customer (terms_of k)) shut_customer

-- no days of legal readings have a sum above this: a hundred of the highest reading for each day. So no call hands back
-- a state with such a sum, and it takes no day
abbrev pub day_sum_most : ℕ
day_sum_most = most_readings * customer_most

abbrev pub sum_most : ℕ → ℕ
sum_most n = day_sum_most * n

abbrev pub too_much : ℕ → ℕ → Bool
too_much seen sum = ltb (sum_most seen) sum

abbrev pub overfull : Customer → Bool
overfull c = too_much c.seen c.figures.sum

-- a day: 13, then what the run answers where as many days are taken; by the year, the days taken and their sum
abbrev pub day_under : ℕ → ℕ → ℕ → List ℕ → Said
day_under y seen sum day = cond (too_much seen sum) (only 13) (next_answer (Year y) customer_most seen day)

unfoldable pub customer_day_answer : Customer → List ℕ → Said
customer_day_answer c day = day_under c.terms.rates.year c.seen c.figures.sum day

-- the figures in what taking a day answered, and none where it refused
abbrev pub taken_figures : Result Figures TakingRefusal → Figures
taken_figures taking = result_unwrap_or taking no_figures

-- the state with one more day
abbrev pub customer_taken : Customer → List ℕ → Customer
customer_taken c day =
    record {
      terms = c.terms;
      seen = c.seen + 1;
      figures =
          taken_in c.figures (c.seen + 1) (record_of (day_len (Year c.terms.rates.year) c.seen) (counts c.terms c.seen) (alone day));
    }

unfoldable pub day_customer : Customer → List ℕ → Customer
day_customer c day = after (customer_day_answer c day) (customer_taken c day) c

-- closing: 13 for a state that does not have all days, then as the whole series
unfoldable pub customer_close_answer : Customer → Said
customer_close_answer c = cond (not (eqb c.seen (year_days c.terms.rates.year))) (only 13) (judged c.terms c.figures)

-- what is promised of opening and of a day: the answer, and the next state beside it
pub record Steps (a : Said) (c : Customer) (r : Stepped) : Type 0 where
  pub said : said_of r.answer ≡ a
  pub state : r.customer ≡ c
