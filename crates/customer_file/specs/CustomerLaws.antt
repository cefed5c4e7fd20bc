-- What the machine needs of the customer's year; and the machine's first state, as it is defined for the customer file.
-- Assumes nothing.
use mathlib.Core.Path.{◌≡◌, refl}
use mathlib.Core.Bool.{false}
use mathlib.Core.List.{List}
use Prim.Native.Nat.{ℕ}
use native.Mathlib.Omega.{arith}
use lib.Dec.{eqb}
use Rattle.editions.specs.declared.Editions.{Editions}
use Rattle.readings.proofs.Runs.{year_run}
use Rattle.customer_days.specs.declared.Customer.{Customer}
use Rattle.customer_days.specs.Days.{customer_day_answer, day_customer}
use Rattle.fields.proofs.Header.{fits_wider}
use Rattle.file_machine.specs.FileMachine.{KindLaws, file_start}
use Rattle.customer_head.specs.Header.{customer_head_most}
use Rattle.customer_head.proofs.CustomerLayout.{count_is, count_few, fits}
use Rattle.customer_file.specs.CustomerMachine.{customer_kind, customer_start}

kept : (c : Customer) (day : List ℕ) → eqb (customer_day_answer c day).number 0 ≡ false → day_customer c day ≡ c
unfolding day_customer
kept c day z = rw z

pub customer_laws : KindLaws customer_kind customer_head_most
customer_laws =
    record {
      fits = λ es b k. fits_wider (fits es b k) (omega arith);
      few = λ es b. omega (arith, count_is es b, count_few es b);
      all_days = λ s. year_run s.customer.terms.rates.year;
      kept = λ s day z i. record { customer = kept s.customer day z i };
    }

pub customer_start_is : (es : Editions) → file_start customer_kind es ≡ customer_start es
customer_start_is es = refl
