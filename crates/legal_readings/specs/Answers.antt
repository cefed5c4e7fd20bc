-- What one day more is answered, by the code's Result: the number and the figures of each refusal. The definition that
-- it meets for every run, limit, number of days and readings is `next_answer` (readings, Days). Rules 8.2 and 8.4.
use Rattle.std.specs.Prelude.{Result, Ok, Err, ⊤}
use Rattle.answers.specs.Said.{Said, only, bad_place}
use Rattle.legal_readings.specs.declared.Unfit.{Unfit}
use Rattle.legal_readings.specs.declared.Unfit.TheVariants.{DayOut, WrongLength, BadReading}

-- the number and the figures of each refusal of the code, and of what the call hands back
abbrev pub said_of_unfit : Unfit → Said
said_of_unfit DayOut = only 13
said_of_unfit WrongLength = only 4
said_of_unfit (BadReading place) = bad_place place

abbrev pub said_of_next : Result ⊤ Unfit → Said
said_of_next (Ok done) = only 0
said_of_next (Err unfit) = said_of_unfit unfit
