-- `day_figures::masks_of` meets its contract. The loop's invariant: the first q masks are made.
-- Assumes nothing.
use Prim.Native.Nat.{◌-◌}
use Rattle.day_figures.proofs.Masks.{Made}
use Rattle.day_figures.proofs.masks_of.Given as goal

abbrev pub invariant-loop-q : goal.invariant-loop-q
invariant-loop-q l = Made l.row l.q l.out

abbrev pub decreases-loop-q : goal.decreases-loop-q
decreases-loop-q l = l.q-end - l.q
