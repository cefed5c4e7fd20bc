-- `day_figures::days_out` meets its contract, a law for each return.
-- Assumes nothing.
use native.Mathlib.Omega.{arith}
use Rattle.day_figures.proofs.Fits.{out_days, out_sum}
use Rattle.day_figures.proofs.days_out.Goals as goal

pub returns-then-days-from : goal.returns-then-days-from
returns-then-days-from c = out_days _ _ _ _ (omega arith)

pub returns-then-days-from-2 : goal.returns-then-days-from-2
returns-then-days-from-2 c = out_days _ _ _ _ (omega arith)

pub returns : goal.returns
returns c = out_sum _ _ _ _ (omega arith) (omega arith)
