-- `readings::run_days` meets its contract, a law for each kind of run.
-- Assumes nothing.
use mathlib.Core.Path.{sym, ◌∙◌}
use Rattle.readings.proofs.Runs.{year_run, period_run}
use Rattle.readings.proofs.run_days.Goals as goal

pub returns-in-Year : goal.returns-in-Year
returns-in-Year c = rw c.in-Year.is (c.year_days.ensures ∙ sym (year_run _))

pub returns-in-Period : goal.returns-in-Period
returns-in-Period c = rw c.in-Period.is (c.period_days.ensures ∙ sym (period_run _))
