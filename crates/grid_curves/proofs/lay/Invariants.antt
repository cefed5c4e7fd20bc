-- `grid_curves::lay` meets its contract. The loop's invariant: the first p positions are laid over the curves.
-- Assumes nothing.
use mathlib.Core.Path.{◌≡◌}
use Prim.Native.Nat.{◌-◌, ◌+◌, ◌*◌}
use Rattle.answers.specs.Ruling.{day_quarters}
use Rattle.periods.specs.Period.{period_season}
use Rattle.grid_curves.proofs.Laid.{Laid}
use Rattle.grid_curves.proofs.lay.Given as goal

abbrev pub invariant-loop-p : goal.invariant-loop-p
invariant-loop-p l = (l.base ≡ day_quarters * (period_season l.year (l.d + 1) - 1)) × Laid l.year l.d l.day l.initial.curves l.p l.curves
