-- What the statement program prints: one line, the number and its figures. Said of a file's bytes, and of the machine
-- that reads them. Rule 10.7.
use Rattle.std.specs.Prelude.{List, ℕ}
use Rattle.editions.specs.declared.Editions.{Editions}
use Rattle.lines.specs.Figures.{statement_line}
use Rattle.customer_file.specs.Customer.{customer_answer}
use Rattle.customer_file.specs.CustomerMachine.{CustomerFile, answer_of}

-- all that the statement program prints of a file with these bytes, by the list of editions es
abbrev pub statement_printed : Editions → List ℕ → List ℕ
statement_printed es b = statement_line (customer_answer es b)

-- what the machine prints
abbrev pub customer_text : CustomerFile → List ℕ
customer_text s = statement_line (answer_of s)
