-- `grid::by_season` meets its contract. The loop's invariant: the first s seasons are written, and the rows that are
-- left have a day's quarters.
-- Assumes nothing.
use mathlib.Core.List.{[]}
use Rattle.sheet.specs.Windows.{seasons}
use Rattle.ranges.proofs.Tables.{Filled}
use Rattle.grid.specs.Answers.{curve_of}
use Rattle.grid.proofs.RowsLeft.{Left}
use Rattle.grid.proofs.by_season.Given as goal

abbrev pub invariant-loop-s : goal.invariant-loop-s
invariant-loop-s l = Filled (curve_of l.flat) seasons [] l.s l.curve-items × Left l.s l.curve-items
