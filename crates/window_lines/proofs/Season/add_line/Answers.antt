-- `window_lines::Season::add_line` meets its contract: number, time, dash, time and LF, one after the other.
-- Assumes nothing.
use mathlib.Core.List.{[], ◌∷◌, ◌++◌}
use Prim.Native.Nat.{ℕ, ◌+◌, ◌≤◌}
use native.Mathlib.Omega.{arith}
use lib.ListN.{length}
use Rattle.texts.specs.declared.Writer.{Writer}
use Rattle.texts.specs.Text.{Puts, Writes}
use Rattle.texts.proofs.Writing.{fitted, then, then_put}
use Rattle.window_lines.specs.Runs.{digit, time_of, run_line}
use Rattle.window_lines.proofs.Season.add_line.Goals as goal

-- the season's number, the first time and the dash: eight bytes
dashed :
    (season from : ℕ) {s a b e : Writer}
    → s.at + 14 ≤ length s.buf.now
    → Puts s (digit season ∷ 32 ∷ []) a
    → Writes a (time_of from) b
    → Puts b (45 ∷ []) e
    → Writes s ((digit season ∷ 32 ∷ []) ++ time_of from ++ (45 ∷ [])) e
unfolding time_of
dashed season from room number time dash =
    then_put (then (fitted number (omega (arith, room))) time) dash (omega (arith, room))

pub add_time-requires : goal.add_time-requires
add_time-requires c =
    let room = c.requires.3 in
    let w = fitted c.add.ensures (omega (arith, room)) in
    (c.requires.1, omega (arith, w.wrote.end, w.wrote.same, room))

pub add_time-requires-2 : goal.add_time-requires-2
unfolding time_of
add_time-requires-2 c =
    let a = c.args in
    let w = dashed a.self.now.number a.from c.requires.3 c.add.ensures c.add_time.ensures c.add-2.ensures in
    (c.requires.2, omega (arith, w.wrote.end, w.wrote.same, c.requires.3))

pub returns : goal.returns
unfolding run_line time_of
returns c =
    let a = c.args in
    let d = dashed a.self.now.number a.from c.requires.3 c.add.ensures c.add_time.ensures c.add-2.ensures in
    then_put (then d c.add_time-2.ensures) c.add-3.ensures (omega (arith, c.requires.3))
