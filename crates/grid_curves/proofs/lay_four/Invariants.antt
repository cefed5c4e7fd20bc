-- `grid_curves::lay_four` meets its contract. The loop's invariant: the first q quarters of the four days are laid over
-- the curves.
-- Assumes nothing.
use mathlib.Core.Path.{◌≡◌}
use Prim.Native.Nat.{◌-◌, ◌*◌, ◌≤◌}
use lib.ListN.{length}
use Rattle.answers.specs.Ruling.{day_quarters}
use Rattle.grid_curves.specs.Four.{four_days}
use Rattle.grid_curves.proofs.Fours.{Over}
use Rattle.grid_curves.proofs.lay_four.Given as goal

abbrev pub invariant-loop-q : goal.invariant-loop-q
invariant-loop-q l =
    (l.base ≡ day_quarters * (l.season - 1)) × (length l.four ≡ four_days) × (1 ≤ l.season) × (l.season ≤ 4)
    × Over l.season l.initial.curves l.four l.q l.curves

abbrev pub decreases-loop-q : goal.decreases-loop-q
decreases-loop-q l = day_quarters - l.q
