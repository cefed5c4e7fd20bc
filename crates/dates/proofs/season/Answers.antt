-- `dates::season` meets its contract: the table is read at the month.
-- Assumes nothing.
use mathlib.Core.Path.{ap, ◌∙◌}
use Prim.Native.Nat.{ℕ, ◌-◌}
use native.Mathlib.Omega.{arith}
use lib.ListN.{get_or}
use Rattle.dates.proofs.Months.{month_range}
use Rattle.dates.proofs.Seasons.{seasons, season_of_law}
use Rattle.dates.proofs.season.Goals as goal

pub overflow_sub-result : goal.overflow_sub-result
overflow_sub-result c = let r = month_range c.args.year c.args.day in omega arith

pub bounds-m : goal.bounds-m
bounds-m c = let r = month_range c.args.year c.args.day in omega arith

pub returns : goal.returns
returns c = ap (λ (m : ℕ). get_or seasons (m - 1) 0) c.month-m.ensures ∙ season_of_law _ _
