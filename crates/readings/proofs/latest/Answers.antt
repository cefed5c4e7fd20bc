-- `readings::latest` meets its contract, by the kind of run.
-- Assumes nothing.
use Rattle.readings.proofs.latest.Goals as goal

pub returns-in-Year : goal.returns-in-Year
returns-in-Year c = rw c.in-Year.is

pub returns-in-Period : goal.returns-in-Period
returns-in-Period c = rw c.in-Period.is
