-- `holidays::bad_holidays` meets its contract. The loop's invariant: no entry before entry k, from 0, is bad, and
-- `last` is the entry before it.
-- Assumes nothing.
use mathlib.Core.Path.{◌≡◌}
use Rattle.ranges.proofs.Tests.{Passed}
use Rattle.holidays.specs.Holidays.{before, bad_entry}
use Rattle.holidays.proofs.bad_holidays.Given as goal

abbrev pub invariant-loop-day : goal.invariant-loop-day
invariant-loop-day l = (l.last ≡ before l.holidays l.day-index) × Passed (bad_entry l.year l.holidays) l.day-index
