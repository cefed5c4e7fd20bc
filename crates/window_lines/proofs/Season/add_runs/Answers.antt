use native.Mathlib.Omega.{arith}
use Rattle.texts.proofs.Writing.{laid_none, laid_room, laid_more, laid_all}
use Rattle.window_lines.proofs.Season.add_runs.Goals as goal

pub loop-q-init : goal.loop-q-init
loop-q-init c = laid_none c.requires.1

pub add_run-requires : goal.add_run-requires
add_run-requires c = (c.requires.0, omega arith, laid_room c.loop-q.invariant (omega arith))

pub loop-q-preserved : goal.loop-q-preserved
loop-q-preserved c = laid_more c.loop-q.invariant (omega arith) c.add_run.ensures

pub returns : goal.returns
returns c = laid_all c.loop-q.invariant (omega arith)
