-- The machine that the statement program drives, as a reader of a file (room `fields`, specs/Machine): what it holds,
-- its steps, and what it answers. Rules 10.4, 10.5 and 10.7.
use Rattle.std.specs.Prelude.{cond, List, ℕ, ltb, replicate}
use Rattle.answers.specs.Said.{Said}
use Rattle.dates.specs.Dates.{year_days}
use Rattle.editions.specs.declared.Editions.{Editions}
use Rattle.readings.specs.declared.Run.TheVariants.{Year}
use Rattle.customer_days.specs.declared.Customer.{Customer}
use Rattle.customer_days.specs.Days.{shut_customer, customer_day_answer, day_customer, customer_close_answer}
use Rattle.fields.specs.declared.Stage.{Stage}
use Rattle.fields.specs.declared.Stage.TheVariants.{Going}
use Rattle.fields.specs.Stages.{said_of_stage}
use Rattle.fields.specs.Machine.{Reader, wants, fed}
use Rattle.customer_head.specs.Header.{customer_head_most, customer_layout}
use Rattle.customer_opening.specs.Opening.{opened_in}
use Rattle.file_machine.specs.declared.File.{File}
use Rattle.file_machine.specs.FileMachine.{Kind, file_reader}
use Rattle.customer_file.specs.declared.CustomerSeries.{CustomerSeries}

-- by the list of editions es, after k fields: the customer's year is opened once the header's last field is taken, and
-- is the old one before
unfoldable pub opened_with : Editions → Customer → List ℕ → ℕ → Customer
opened_with es old head k = cond (ltb k (customer_layout es head).count) old (opened_in es head)

-- the machine's states
abbrev pub CustomerFile : Type 0
CustomerFile = File CustomerSeries customer_head_most

-- what is the customer file's own: its days are those of the charge year, and the customer's year takes them in; `seen`
-- is how many are taken
abbrev pub customer_kind : Kind CustomerSeries
customer_kind =
    record {
      layout = customer_layout;
      fresh = λ es. record { customer = shut_customer };
      opened = λ es old head k. record { customer = opened_with es old.customer head k };
      seen = λ s. s.customer.seen;
      run = λ s. Year s.customer.terms.rates.year;
      days = λ s. year_days s.customer.terms.rates.year;
      said = λ s day. customer_day_answer s.customer day;
      added = λ s day. record { customer = day_customer s.customer day };
    }

-- the state in the header: k fields are taken, and these are the header's bytes; and the state before the first byte
abbrev pub customer_head : Editions → Customer → ℕ → List ℕ → CustomerFile
customer_head es old k head = record { editions = es; field = k; head = head; series = record { customer = opened_with es old head k }; stage = Going }

abbrev pub customer_start : Editions → CustomerFile
customer_start es =
    record { editions = es; field = 0; head = replicate customer_head_most 0; series = record { customer = shut_customer }; stage = Going }

-- the state that has ended at a stage
abbrev pub customer_ended : CustomerFile → Stage → CustomerFile
customer_ended s stage = record { editions = s.editions; field = s.field; head = s.head; series = s.series; stage = stage }

-- as a reader
abbrev pub customer_reader : Reader CustomerFile
customer_reader = file_reader customer_kind

-- how many bytes it wants, and what it does with those that came
abbrev pub customer_wants : CustomerFile → ℕ
customer_wants s = wants customer_reader s

abbrev pub customer_fed : CustomerFile → List ℕ → CustomerFile
customer_fed s b = fed customer_reader s b

-- what it answers: by where it stands, and once all days are in, what closing the year says
abbrev pub answer_of : CustomerFile → Said
answer_of s = said_of_stage s.stage (customer_close_answer s.series.customer)
