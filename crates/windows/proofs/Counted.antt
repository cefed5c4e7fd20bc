-- What a counting loop adds for a test, as a number: 1 where it passes, else 0.
-- Assumes nothing.
use mathlib.Core.Path.{◌≡◌, refl}
use mathlib.Core.Bool.{Bool, true, false}
use Rattle.std.specs.Int.{from_bool}
use Rattle.ranges.specs.Ranges.{bit}

pub counts : (b : Bool) → from_bool b ≡ bit b
counts true = refl
counts false = refl
