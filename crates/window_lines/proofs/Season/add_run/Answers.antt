-- `window_lines::Season::add_run` meets its contract, a law for each case.
-- Assumes nothing.
use mathlib.Core.Path.{◌≡◌, sym, ap, ◌∙◌}
use native.Mathlib.Omega.{arith}
use lib.ListN.{length}
use Rattle.window_lines.specs.Runs.{quarters, run_line, run_end, run_text}
use Rattle.texts.proofs.Writing.{wrote_as, wrote_none}
use Rattle.window_lines.proofs.Runs.{line_long, run_yes, run_no}
use Rattle.window_lines.proofs.Season.add_run.Goals.{Then-begins}
use Rattle.window_lines.proofs.Season.add_run.Goals as goal

-- a run begins there
run :
    (e : Then-begins)
    → let a = e.args in
    let s = a.self.now in
    let f = quarters s.set.now in run_line s.number a.q (run_end f a.q) ≡ run_text s.number f a.q
run e =
    let a = e.args in
    run_yes a.self.now.number (quarters a.self.now.set.now) a.q (sym e.begins.ensures ∙ e.if-begins.true)

pub add_line-requires : goal.add_line-requires
add_line-requires c =
    let a = c.args in
    let long = line_long a.self.now.number a.q (run_end (quarters a.self.now.set.now) a.q) in
    let room = ap length (run (goal.at.add_line-requires c).Then-begins) in
    (c.requires.0, omega (arith, c.requires.1), c.run_end-to.ensures.1, omega (arith, c.requires.2, room, long))

pub returns-then-begins : goal.returns-then-begins
returns-then-begins c =
    wrote_as (ap (run_line _ _) c.run_end-to.ensures.0 ∙ run (goal.at.returns-then-begins c).Then-begins) c.add_line.ensures

pub returns-else-begins : goal.returns-else-begins
returns-else-begins c =
    let a = c.args in
    let none = run_no _ (quarters a.self.now.set.now) _ (sym c.begins.ensures ∙ c.if-begins.false) in
    wrote_as none (wrote_none _ (omega (arith, c.requires.2)))
