-- `readings::no_day` meets its contract, test by test.
-- Assumes nothing.
use mathlib.Core.Path.{ap, ◌∙◌}
use mathlib.Core.Bool.{◌||◌}
use Prim.Native.Nat.{ℕ}
use lib.Dec.{ltb, eqb}
use Rattle.readings.specs.Part.{no_day}
use Rattle.readings.proofs.no_day.Goals as goal

pub returns : goal.returns
unfolding no_day
returns c =
    let day = c.args.day in
    ap (λ (days : ℕ). eqb day 0 || ltb days day) (c.from.ensures ∙ c.run_days.ensures)
