-- `readings::run_readings` meets its contract: 96 readings a day.
-- Assumes nothing.
use mathlib.Core.Path.{sym, ap, ◌∙◌}
use Prim.Native.Nat.{ℕ, ◌*◌}
use Rattle.answers.specs.Ruling.{day_quarters}
use Rattle.readings.proofs.Runs.{keeps_length}
use Rattle.readings.proofs.run_readings.Goals as goal

pub returns : goal.returns
returns c = ap (λ (n : ℕ). day_quarters * n) (c.from.ensures ∙ c.run_days.ensures) ∙ sym (keeps_length _)
