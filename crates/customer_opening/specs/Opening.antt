-- What the header of a customer file opens, by the list of editions es and the file's bytes b. Rules 9.5 and 10.3.
use Rattle.std.specs.Prelude.{List, ℕ}
use Rattle.editions.specs.declared.Editions.{Editions}
use Rattle.terms.specs.Basis.{Basis, basis}
use Rattle.customer_days.specs.declared.Customer.{Customer}
use Rattle.customer_days.specs.Days.{open_customer}
use Rattle.customer_head.specs.Header.{sheet_part, option_of, holidays_of, prices_in}

-- what the header states for the decision, and the customer's year that it opens
abbrev pub basis_in : Editions → List ℕ → Basis
basis_in es b = basis es (sheet_part b) (holidays_of b) (prices_in b) (option_of b)

unfoldable pub opened_in : Editions → List ℕ → Customer
opened_in es b = open_customer (basis_in es b)
