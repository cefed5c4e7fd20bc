-- `lines::add_number` meets its contract: the digits are the fewest that hold the number.
-- Assumes nothing.
use mathlib.Core.Path.{ap, ◌∙◌}
use native.Mathlib.Omega.{arith}
use lib.ListN.{length}
use Rattle.texts.proofs.Writing.{wrote_as, fitted}
use Rattle.lines.proofs.Figures.{decimal_is}
use Rattle.lines.proofs.add_number.Goals as goal

pub returns : goal.returns
returns c =
    let digits = c.decimal-k.ensures.digits ∙ decimal_is c.ranges.x.fits c.decimal-k.ensures.len in
    wrote_as digits (fitted c.add.ensures (omega (arith, c.requires, ap length digits)))
