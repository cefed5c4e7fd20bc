-- `customer_days::Customer::close` meets its contract, a law for each return.
-- Assumes nothing.
use native.Mathlib.Omega.{arith}
use Rattle.customer_days.proofs.Steps.{close_early, close_judged}
use Rattle.customer_days.proofs.Customer.close.Goals as goal

pub returns-then-self-year_days : goal.returns-then-self-year_days
returns-then-self-year_days c =
    close_early c.args.self (λ e. omega (arith, c.year_days.ensures))

pub returns : goal.returns
returns c =
    close_judged c.args.self (omega (arith, c.year_days.ensures)) c.judge.ensures
