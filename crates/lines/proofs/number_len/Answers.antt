-- `lines::number_len` meets its contract: the digits are the fewest that hold the number.
-- Assumes nothing.
use Rattle.lines.proofs.Figures.{at_most_20, decimal_long}
use Rattle.lines.proofs.number_len.Goals as goal

pub returns : goal.returns
returns c =
    let decimal = c.decimal in
    (decimal_long c.ranges.x.fits decimal.ensures.len, at_most_20 c.ranges.x.fits decimal.ensures.len)
