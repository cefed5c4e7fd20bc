-- `editions::pick` meets its contract. The loop's invariant: none of the records before the loop's place holds for the
-- year.
-- Assumes nothing.
use Rattle.ranges.proofs.Tests.{Passed}
use Rattle.editions.proofs.Picked.{holding}
use Rattle.editions.proofs.pick.Given as goal

abbrev pub invariant-loop-record : goal.invariant-loop-record
invariant-loop-record l = Passed (holding l.fn.editions.records l.year) l.record-index
