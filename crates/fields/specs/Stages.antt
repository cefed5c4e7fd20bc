-- Where a machine that reads a file stands, and what it then answers. Rules 10.4 and 10.5.
use Rattle.std.specs.Prelude.{Bool, true, false, cond, eqb, get_or}
use Rattle.answers.specs.Said.{Said, only, bad_place}
use Rattle.fields.specs.declared.Stage.{Stage}
use Rattle.fields.specs.declared.Stage.TheVariants.{Going, Refused, BadReading, Complete}

-- does it go on?
abbrev pub going : Stage → Bool
going Going = true
going (Refused n) = false
going (BadReading place) = false
going Complete = false

-- where it stands after a day's refusal: 5 has figures, the day from 1 and the position from 0, the others have none
unfoldable pub stage_of : Said → Stage
stage_of said =
    cond (eqb said.number 5) (BadReading (record { day = get_or said.figures 0 0; position = get_or said.figures 1 0 }))
    (Refused said.number)

-- where it stands after a day: it goes on where the day is taken
abbrev pub day_stage : Said → Stage
day_stage said = cond (eqb said.number 0) Going (stage_of said)

-- what it answers: 13 while it goes on, as for closing before the last day (Rule 8.1); once all days are in, what
-- closing says
abbrev pub said_of_stage : Stage → Said → Said
said_of_stage Going closing = only 13
said_of_stage (Refused n) closing = only n
said_of_stage (BadReading place) closing = bad_place place
said_of_stage Complete closing = closing
