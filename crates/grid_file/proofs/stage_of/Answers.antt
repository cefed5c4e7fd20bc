-- `grid_file::stage_of` meets its contract, a law for each refusal.
-- Assumes nothing.
use mathlib.Core.Path.{ap, ◌∙◌}
use Rattle.answer_numbers.specs.declared.Numbers.{Numbers}
use Rattle.fields.specs.Stages.{stage_of}
use Rattle.fields.specs.declared.Stage.TheVariants.{Refused}
use Rattle.grid_file.proofs.GridDays.{not_five}
use Rattle.grid_file.proofs.stage_of.Goals as goal

pub returns-in-BadReading : goal.returns-in-BadReading
unfolding stage_of
returns-in-BadReading c = rw (c.in-Err.is, c.in-BadReading.is)

pub returns-in_default : goal.returns-in_default
returns-in_default c =
    rw c.in-Err.is (ap (λ (f : Numbers). Refused f.number) c.of_answer.ensures ∙ not_five c.in-Err.refusal c.in_default.not-BadReading)
