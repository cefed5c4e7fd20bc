-- `legal_readings::first_illegal` meets its contract. The invariants: no day before day d, and no position before p of
-- day d, has an illegal reading.
-- Assumes nothing.
use Prim.Native.Nat.{◌-◌}
use Rattle.readings.proofs.Legal.{Searching, InDay}
use Rattle.legal_readings.proofs.first_illegal.Given as goal

abbrev pub invariant-loop-p : goal.invariant-loop-p
invariant-loop-p l =
    InDay l.change l.limit l.series l.days l.day l.position l.d l.span.start l.p-end l.p

abbrev pub decreases-loop-p : goal.decreases-loop-p
decreases-loop-p l = l.p-end - l.p

abbrev pub invariant-search : goal.invariant-search
invariant-search l = Searching l.change l.limit l.series l.days l.day l.position l.d

abbrev pub decreases-search : goal.decreases-search
decreases-search l = l.days - l.d
