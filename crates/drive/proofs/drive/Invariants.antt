-- `drive::drive`: the turns that are left, over what the input has left, do what all turns do from the start.
use Rattle.std.proofs.Common.{◌-◌}
use Rattle.file_machine.specs.FileMachine.{file_start, file_reader}
use Rattle.drive.proofs.Driving.{Left}
use Rattle.drive.proofs.drive.Given as goal

abbrev pub invariant-loop-turn : goal.invariant-loop-turn
invariant-loop-turn g l =
    Left (file_reader g.S.Series.kind) 423 (423 - l._turn) (file_start g.S.Series.kind l.fn.editions) l.file
    (g.R.Read.remaining l.initial.input) (g.R.Read.remaining l.input)

abbrev pub decreases-loop-turn : goal.decreases-loop-turn
decreases-loop-turn g l = 423 - l._turn
