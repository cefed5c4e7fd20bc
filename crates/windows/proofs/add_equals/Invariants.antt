-- `windows::add_equals` meets its contract. The loop's invariant: the first q quarters are
-- decided, and the equals among them counted.
-- Assumes nothing.
use Rattle.windows.proofs.Added.{Added}
use Rattle.windows.proofs.add_equals.Given as goal

abbrev pub invariant-loop-q : goal.invariant-loop-q
invariant-loop-q l = Added l.curve l.limit l.equals l.q l.n l.out
