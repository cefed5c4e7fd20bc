-- `dates::weekday` meets its contract: three divisions count the leap days that the definition counts year by year.
-- Assumes nothing.
use Rattle.dates.proofs.Weekdays.{weekday_by_leaps}
use Rattle.dates.proofs.weekday.Goals as goal

pub returns : goal.returns
returns c = rw (c.from-y.ensures, c.from.ensures) (weekday_by_leaps _ _)
