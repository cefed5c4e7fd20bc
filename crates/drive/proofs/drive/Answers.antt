-- `drive::drive` meets its contract, by the turns that are left.
-- Assumes nothing.
use Rattle.std.proofs.Common.{◌≡◌, suc, ◌+◌, ◌-◌, sym, subst, arith}
use Rattle.file_machine.specs.FileMachine.{file_start, file_reader}
use Rattle.drive.proofs.Driving.{Left, left_all, left_more, left_ended, left_none}
use Rattle.drive.proofs.drive.Goals as goal

pub loop-turn-init : goal.loop-turn-init
loop-turn-init g c =
    let k = g.S.Series.kind in
    let a = g.R.Read.remaining c.args.input.now in
    subst (λ t. Left (file_reader k) 423 423 (file_start k c.args.editions) t a a) (sym c.start-file.ensures)
    (left_all (file_reader k) 423 (file_start k c.args.editions) a)

pub loop-turn-preserved : goal.loop-turn-preserved
loop-turn-preserved g c =
    let turn = c.loop-turn._turn in
    let e : 423 - turn ≡ suc (423 - (turn + 1)) = omega arith in
    left_more (file_reader g.S.Series.kind) 423 (423 - (turn + 1)) _ _ _ _ _ _ e c.loop-turn.invariant c.in_ok-file.ensures

pub returns-then-not-is_going : goal.returns-then-not-is_going
returns-then-not-is_going g c = left_ended (file_reader g.S.Series.kind) 423 (423 - c.loop-turn._turn) _ _ _ _ (cc) c.loop-turn.invariant

pub returns : goal.returns
returns g c = left_none (file_reader g.S.Series.kind) 423 (423 - c.loop-turn._turn) _ _ _ _ (omega arith) c.loop-turn.invariant
