-- `customer_head::first_fails` meets its contract, a law for each return.
-- Assumes nothing.
use mathlib.Core.Path.{ap, ◌∙◌}
use native.Mathlib.Omega.{arith}
use Rattle.answers.specs.Ruling.{level_out}
use Rattle.sheet.specs.Bytes.{mark}
use Rattle.customer_head.specs.Header.{customer_mark}
use Rattle.fields.proofs.Common.{mark_no, version_no, year_no, level_no}
use Rattle.customer_head.proofs.Refusals.{fails_at, season_fails, option_no, count_no}
use Rattle.customer_head.proofs.first_fails.Goals as goal

pub returns-in-0 : goal.returns-in-0
returns-in-0 c = fails_at _ _ _ 0 (omega arith) c.in-0.is (mark_no _ 0 customer_mark c.other_mark.ensures)

pub returns-in-1 : goal.returns-in-1
returns-in-1 c = fails_at _ _ _ 1 (omega arith) c.in-1.is (version_no _ 3 c.two_at.ensures)

pub returns-in-2 : goal.returns-in-2
returns-in-2 c = fails_at _ _ _ 2 (omega arith) c.in-2.is (mark_no _ 5 mark c.other_mark-in-2.ensures)

pub returns-in-3 : goal.returns-in-3
returns-in-3 c = fails_at _ _ _ 3 (omega arith) c.in-3.is (version_no _ 8 c.two_at-in-3.ensures)

pub returns-in-4 : goal.returns-in-4
returns-in-4 c = fails_at _ _ _ 4 (omega arith) c.in-4.is (year_no _ 10 _ c.two_at-in-4.ensures c.year_out.ensures)

pub returns-in-5 : goal.returns-in-5
returns-in-5 c = fails_at _ _ _ 5 (omega arith) c.in-5.is (level_no _ 12 (c.level_out.ensures ∙ ap level_out c.byte_at.ensures))

pub returns-in-10 : goal.returns-in-10
returns-in-10 c = fails_at _ _ _ 10 (omega arith) c.in-10.is (option_no _ 61 c.byte_at-in-10.ensures)

pub returns-in-11 : goal.returns-in-11
returns-in-11 c = fails_at _ _ _ 11 (omega arith) c.in-11.is (count_no _ 62 c.byte_at-in-11.ensures)

pub returns-in_default : goal.returns-in_default
returns-in_default c = season_fails _ _ _ (omega arith) (omega arith) (rw (c.pick-edition.ensures, c.two_at-in_default.ensures) at c.season_full.ensures)
