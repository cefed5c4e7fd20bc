-- What a customer file is answered, by its bytes b: its header (room `customer_head`), then the readings of the charge
-- year, four bytes each. Rules 10.3 to 10.5.
use Rattle.std.specs.Prelude.{List, ℕ}
use Rattle.answers.specs.Ruling.{customer_most}
use Rattle.answers.specs.Said.{Said}
use Rattle.editions.specs.declared.Editions.{Editions}
use Rattle.readings.specs.declared.Run.TheVariants.{Year}
use Rattle.customer.specs.Answers.{decide_answer}
use Rattle.fields.specs.Layout.{head_size}
use Rattle.fields.specs.Series.{series_in}
use Rattle.fields.specs.File.{file_answer}
use Rattle.customer_head.specs.Header.{customer_year, customer_layout}
use Rattle.customer_opening.specs.Opening.{basis_in}

-- what a customer file is answered by the list of editions es: for its header, then for its days, and without a fault
-- there, what the decision over its whole series is
unfoldable pub customer_answer : Editions → List ℕ → Said
customer_answer es b =
    file_answer (customer_layout es b) (Year (customer_year b)) customer_most
    (decide_answer (basis_in es b) (series_in b (head_size (customer_layout es b))))
    b
