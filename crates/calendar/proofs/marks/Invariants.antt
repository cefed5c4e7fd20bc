-- `calendar::marks` meets its contract. The loop's invariant: the first k entries are marked.
-- Assumes nothing.
use Rattle.calendar.proofs.Marked.{Marking}
use Rattle.calendar.proofs.marks.Given as goal

abbrev pub invariant-loop-day : goal.invariant-loop-day
invariant-loop-day l = Marking l.holidays l.day-index l.out
