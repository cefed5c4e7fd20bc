-- A lent series that is given to a customer's year day by day, from its opening to its closing: each day as its
-- run has it, and where one is refused the next ones all the same. Rules 9.2 to 9.5.
use Rattle.std.specs.Prelude.{List, ℕ}
use Rattle.answers.specs.Said.{Said}
use Rattle.dates.specs.Dates.{year_days}
use Rattle.readings.specs.declared.Run.TheVariants.{Year}
use Rattle.readings.specs.Days.{offered, days_of}
use Rattle.tariff.specs.declared.Prices.{Prices}
use Rattle.terms.specs.Basis.{Basis}
use Rattle.customer_days.specs.declared.Customer.{Customer}
use Rattle.customer_days.specs.Days.{open_customer, day_customer, customer_close_answer}

-- a customer's year after the first n days of a series
abbrev pub customer_after_days : Basis → List ℕ → ℕ → Customer
customer_after_days k xs n = offered day_customer (open_customer k) (days_of (Year (open_customer k).terms.rates.year) xs n)

-- how many days are given: those of the year that the opened state has, which is year 0 where the opening is refused
abbrev pub open_days : Basis → ℕ
open_days k = year_days (open_customer k).terms.rates.year

-- what closing answers after as many days as that year has
abbrev pub customer_days_answer : Basis → List ℕ → Said
customer_days_answer k xs = customer_close_answer (customer_after_days k xs (open_days k))

-- a price list of four numbers, low row before high row and capacity before energy (Rule 2.5)
abbrev pub price_list : ℕ → ℕ → ℕ → ℕ → Prices
price_list lowCapacity lowEnergy highCapacity highEnergy =
    record {
      few = record { capacity = lowCapacity; energy = lowEnergy };
      many = record { capacity = highCapacity; energy = highEnergy };
    }
