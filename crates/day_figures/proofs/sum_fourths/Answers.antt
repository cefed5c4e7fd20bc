use Prim.Native.Nat.{ℕ, ◌<◌}
use native.Mathlib.Omega.{arith}
use lib.ListN.{length, get_or}
use Rattle.day_figures.specs.Passes.{four_end}
use Rattle.day_figures.proofs.DaySums.{fourths_none, fourths_more, fourths_all, below_peak}
use Rattle.day_figures.proofs.sum_fourths.Goals as goal

pub sum_four-sum-requires : goal.sum_four-sum-requires
sum_four-sum-requires c =
    let under : (k : ℕ) → k < length c.args.day.now → get_or c.args.day.now k 0 < four_end =
    λ k. below_peak c.args.day.now k c.requires.2 in
    (under _ (omega arith), under _ (omega arith), under _ (omega arith), under _ (omega arith))

pub loop-p-preserved : goal.loop-p-preserved
loop-p-preserved c =
    let l = c.loop-p in
    (l.invariant.0, l.invariant.1, fourths_more _ _ l.invariant.2 (omega arith) c.sum_four-sum.ensures)

pub returns : goal.returns
returns c =
    let l = c.loop-p.invariant in
    record { is = fourths_all _ _ l.2 (omega arith) l.0; most = omega (arith, l.1, l.2.some, l.2.small) }

pub loop-p-init : goal.loop-p-init
loop-p-init c = (omega arith, omega arith, fourths_none _ _)
