-- The number of every answer on a grid series fits a byte.
-- Assumes nothing.
use Prim.Native.Nat.{◌<◌}
use native.Mathlib.Omega.{arith}
use Rattle.std.specs.Prelude.{Result, Ok, Err, ⊤}
use Rattle.grid.specs.declared.GridRefusal.{GridRefusal}
use Rattle.grid.specs.declared.GridRefusal.TheVariants.{Short, YearOut, LevelOut, WrongLength, BadReading, NoPeak, Malformed, DayOut}
use Rattle.grid.specs.Answers.{said_of_grid}

pub answer_small : (a : Result ⊤ GridRefusal) → (said_of_grid a).number < 256
answer_small (Ok done) = omega arith
answer_small (Err Short) = omega arith
answer_small (Err YearOut) = omega arith
answer_small (Err LevelOut) = omega arith
answer_small (Err WrongLength) = omega arith
answer_small (Err (BadReading place)) = omega arith
answer_small (Err NoPeak) = omega arith
answer_small (Err Malformed) = omega arith
answer_small (Err DayOut) = omega arith
