-- No answer of the decision has more than seven figures, so a line is the number and all its figures.
-- Assumes nothing.
use Prim.Native.Nat.{◌<◌}
use native.Mathlib.Omega.{arith}
use Rattle.answers.specs.Said.{Said}
use Rattle.tariff.specs.declared.Decision.{Decision}
use Rattle.tariff.specs.declared.Decision.TheVariants.{Accepted, Eligible, Taken, YearOut, LevelOut, BadHolidays, WrongLength, BadReading, PriceOut, NoWindow, ShareShort, MoveShort, ReductionShort, Malformed, DayOut}
use Rattle.tariff.specs.Answers.{said_of}
use Rattle.answer_numbers.specs.Numbers.{Few}

-- no answer of the decision has more than seven figures, and its number fits a byte
abbrev Small : Said → Type 0
Small s = Few s.figures × (s.number < 256)

pub decision_small : (d : Decision) → Small (said_of d)
decision_small (Accepted a) = (omega arith, omega arith)
decision_small Eligible = (omega arith, omega arith)
decision_small Taken = (omega arith, omega arith)
decision_small YearOut = (omega arith, omega arith)
decision_small LevelOut = (omega arith, omega arith)
decision_small BadHolidays = (omega arith, omega arith)
decision_small WrongLength = (omega arith, omega arith)
decision_small (BadReading place) = (omega arith, omega arith)
decision_small PriceOut = (omega arith, omega arith)
decision_small (NoWindow a) = (omega arith, omega arith)
decision_small (ShareShort a) = (omega arith, omega arith)
decision_small (MoveShort a) = (omega arith, omega arith)
decision_small (ReductionShort a) = (omega arith, omega arith)
decision_small Malformed = (omega arith, omega arith)
decision_small DayOut = (omega arith, omega arith)
