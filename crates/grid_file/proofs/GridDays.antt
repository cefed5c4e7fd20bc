-- A refusal that is not 5: where the machine stands after it.
-- Assumes nothing.
use mathlib.Core.Path.{◌≡◌, refl}
use Rattle.answers.specs.declared.Place.{Place}
use Rattle.grid.specs.declared.GridRefusal.{GridRefusal}
use Rattle.grid.specs.declared.GridRefusal.TheVariants.{Short, YearOut, LevelOut, WrongLength, BadReading, NoPeak, Malformed, DayOut}
use Rattle.grid.specs.Answers.{said_of_grid_refusal}
use Rattle.fields.specs.declared.Stage.TheVariants.{Refused}
use Rattle.fields.specs.Stages.{stage_of, day_stage}

-- a refusal that is not 5
pub not_five :
    (e : GridRefusal)
    → ((place : Place) → e ≡ BadReading place → ⊥)
    → Refused (said_of_grid_refusal e).number ≡ day_stage (said_of_grid_refusal e)
unfolding stage_of
not_five Short h = refl
not_five YearOut h = refl
not_five LevelOut h = refl
not_five WrongLength h = refl
not_five (BadReading place) h = absurd (h place refl)
not_five NoPeak h = refl
not_five Malformed h = refl
not_five DayOut h = refl
