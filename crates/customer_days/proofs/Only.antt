-- Nothing else meets the promises of this crate, and what the state of a refused opening answers.
-- Assumes nothing.
use mathlib.Core.Path.{◌≡◌, refl, sym}
use mathlib.Core.List.{List}
use Prim.Native.Nat.{ℕ}
use native.Mathlib.Omega.{arith}
use Rattle.answers.specs.Ruling.{customer_most}
use Rattle.answers.specs.Said.{Said, only}
use Rattle.answers.proofs.Laws.{one_answer}
use Rattle.dates.proofs.Leaps.{leap_small}
use Rattle.readings.proofs.Runs.{year_run}
use Rattle.readings.proofs.Days.{next_out}
use Rattle.readings.specs.Days.{shut_days}
use Rattle.readings.specs.declared.Run.TheVariants.{Year}
use Rattle.tariff.proofs.Only.{decision_only}
use Rattle.customer_days.specs.declared.Customer.{Customer}
use Rattle.customer_days.specs.declared.Stepped.{Stepped}
use Rattle.customer_days.specs.Days.{shut_customer, customer_day_answer, customer_close_answer, Steps}
use Rattle.customer_days.proofs.Steps.{day_next, close_early}

-- nothing else meets the promise of `open` and of `day`; of `decide` and of `close` nothing else by `decision_only`
-- (tariff)
pub step_only : {x : Said} {c : Customer} {r s : Stepped} → Steps x c r → Steps x c s → r ≡ s
step_only p q =
    let a = decision_only p.said q.said in
    let b = one_answer p.state q.state in
    λ i. record { answer = a i; customer = b i }

-- the state of a refused opening takes no day and never closes
pub shut_day : (day : List ℕ) → customer_day_answer shut_customer day ≡ only 13
shut_day day =
    sym (day_next shut_customer day refl (next_out (Year 0) customer_most shut_days day (omega (arith, year_run 0, leap_small 0))))

pub shut_close : customer_close_answer shut_customer ≡ only 13
shut_close = sym (close_early shut_customer (λ e. omega (arith, leap_small 0)))
