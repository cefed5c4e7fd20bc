-- `day_text::no_dates` meets its contract. The loop's invariant: the bytes before place i fit the form.
-- Assumes nothing.
use Rattle.ranges.proofs.Tests.{Passed}
use Rattle.day_text.specs.Asked.{misfits_at}
use Rattle.day_text.proofs.no_dates.Given as goal

abbrev pub invariant-loop-i : goal.invariant-loop-i
invariant-loop-i l = Passed (misfits_at l.b) l.i
