-- `customer_file::blank` meets its contract, the fixed state: a header of zeros has no sheet.
-- Assumes nothing.
use mathlib.Core.Path.{◌≡◌, refl, ◌∙◌}
use lib.ListN.{replicate}
use Rattle.ranges.specs.Ranges.{joined, any_over}
use Rattle.encoding.specs.Bytes.{other_mark}
use Rattle.sheet.specs.Answers.{read_answer}
use Rattle.terms.specs.Opening.{customer_open_answer}
use Rattle.editions.specs.declared.Editions.{Editions}
use Rattle.customer_days.specs.Days.{shut_customer, open_customer}
use Rattle.customer_head.specs.Header.{customer_head_most}
use Rattle.customer_opening.specs.Opening.{opened_in}
use Rattle.customer_file.proofs.blank.Goals as goal

opens_none : (es : Editions) → opened_in es (replicate customer_head_most 0) ≡ shut_customer
unfolding opened_in open_customer customer_open_answer read_answer other_mark any_over joined
opens_none es = refl

pub returns : goal.returns
returns c = c.opened.ensures ∙ opens_none c.args.editions
