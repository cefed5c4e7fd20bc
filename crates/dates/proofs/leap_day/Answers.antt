-- `dates::leap_day` meets its contract: what a truth is as a number.
-- Assumes nothing.
use mathlib.Core.Path.{◌≡◌, refl, ap, ◌∙◌}
use mathlib.Core.Bool.{Bool, true, false}
use native.Mathlib.Omega.{arith}
use mir.Val.{bool_byte}
use Rattle.ranges.specs.Ranges.{bit}
use Rattle.dates.specs.Dates.{leap_day}
use Rattle.dates.proofs.Leaps.{leap_small}
use Rattle.dates.proofs.leap_day.Goals as goal

byte_is : (b : Bool) → bool_byte b ≡ bit b
byte_is true = refl
byte_is false = refl

pub returns : goal.returns
unfolding leap_day
returns c =
    let e = c.from.ensures ∙ ap bool_byte c.is_leap.ensures ∙ byte_is _ in
    (e, omega (arith, e, leap_small c.args.year))
