-- `periods::march_sunday` meets its contract: behind the days of September to December.
-- Assumes nothing.
use native.Mathlib.Omega.{arith}
use Rattle.dates.proofs.Leaps.{leap_small}
use Rattle.dates.proofs.Sundays.{march_sunday_law}
use Rattle.periods.proofs.Sundays.{march_is}
use Rattle.periods.proofs.march_sunday.Goals as goal

pub overflow_add-result : goal.overflow_add-result
overflow_add-result c =
    let y = c.years_back.result in
    omega (arith, c.last_sunday.ensures, (march_sunday_law y).to, leap_small y)

pub returns : goal.returns
returns c = march_is _ _ _ c.years_back.ensures c.last_sunday.ensures
