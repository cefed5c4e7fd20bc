-- `calendar::window_days` meets its contract. The loop's invariant: the first k days are filled in.
-- Assumes nothing.
use mathlib.Core.Bool.{false}
use Prim.Native.Nat.{ℕ, ◌+◌}
use Rattle.dates.specs.Dates.{most_days}
use Rattle.day_kinds.specs.Kinds.{carries}
use Rattle.ranges.proofs.Tables.{Filled}
use Rattle.calendar.proofs.window_days.Given as goal

abbrev pub invariant-loop-k : goal.invariant-loop-k
invariant-loop-k l = Filled (λ (j : ℕ). carries l.year l.holidays (j + 1)) most_days false l.k l.carries-items
