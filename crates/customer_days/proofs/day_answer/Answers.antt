-- `customer_days::day_answer` meets its contract: a sum that no legal days have is 13, and else the run answers.
-- Assumes nothing.
use native.Mathlib.Omega.{arith}
use borrow.Author.Tests.{lt-ltb}
use Rattle.customer_days.specs.Days.{sum_most}
use Rattle.customer_days.proofs.day_answer.Goals as goal

pub returns-then-from-sum : goal.returns-then-from-sum
returns-then-from-sum c = rw (lt-ltb (sum_most c.args.seen) c.args.sum (omega (arith, c.from.ensures)))
