-- `customer_file::opened_after` meets its contract, a law for each return.
-- Assumes nothing.
use native.Mathlib.Omega.{arith}
use borrow.Author.Tests.{lt-ltb, le-ltb}
use Rattle.customer_file.specs.CustomerMachine.{opened_with}
use Rattle.fields.proofs.Header.{is_field, no_field_law}
use Rattle.customer_head.proofs.CustomerLayout.{fits}
use Rattle.customer_file.proofs.opened_after.Goals as goal

pub returns-then-span_of-gt0 : goal.returns-then-span_of-gt0
unfolding opened_with
returns-then-span_of-gt0 c =
    let es = c.args.editions in
    rw (lt-ltb _ _ (is_field (fits es _ _) (c.span_of.ensures es) (omega arith)))

pub returns : goal.returns
unfolding opened_with
returns c =
    let es = c.args.editions in
    rw (le-ltb _ _ (no_field_law (fits es _ _) (c.span_of.ensures es) (omega arith))) c.opened.ensures
