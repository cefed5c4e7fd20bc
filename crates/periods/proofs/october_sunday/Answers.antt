-- `periods::october_sunday` meets its contract: behind the days to 31 August.
-- Assumes nothing.
use native.Mathlib.Omega.{arith}
use Rattle.dates.proofs.Sundays.{october_sunday_law}
use Rattle.periods.proofs.Sundays.{october_is}
use Rattle.periods.proofs.october_sunday.Goals as goal

-- it comes after 31 August
pub overflow_sub-result-2 : goal.overflow_sub-result-2
overflow_sub-result-2 c =
    let start = c.years_back-first.result in
    omega (arith, c.year_days.ensures, c.last_sunday.ensures, (october_sunday_law start).from)

pub returns : goal.returns
returns c = october_is _ _ _ _ c.years_back-first.ensures c.year_days.ensures c.last_sunday.ensures
