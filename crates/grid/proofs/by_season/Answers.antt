use mathlib.Core.Path.{refl}
use native.Mathlib.Omega.{arith}
use Rattle.ranges.proofs.Tables.{filled_none, filled_more, filled_all}
use Rattle.grid.specs.Answers.{curves_of}
use borrow.Author.Rules.{rules}
use Rattle.grid.proofs.RowsLeft.{left_less, left_all}
use Rattle.grid.proofs.by_season.Goals as goal

pub loop-s-init : goal.loop-s-init
loop-s-init c = (filled_none refl, left_all _ refl)

pub loop-s-preserved : goal.loop-s-preserved
loop-s-preserved c =
    let h = c.loop-s.invariant in
    (filled_more h.0 (omega arith) c.write_curve.ensures, left_less _ _ _ h.1)

pub returns : goal.returns
unfolding curves_of
returns c = filled_all c.loop-s.invariant.0 (omega arith)

pub write_curve-requires : goal.write_curve-requires
write_curve-requires c = (c.loop-s.invariant.1.long _ (omega arith) (omega arith), search rules)
