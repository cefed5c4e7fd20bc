-- `file_machine::File::take_end` meets its contract.
-- Assumes nothing.
use mathlib.Core.Path.{◌∙◌}
use native.Mathlib.Omega.{arith}
use Rattle.fields.proofs.Machine.{end_left, end_done}
use Rattle.file_machine.specs.FileMachine.{file_reader}
use Rattle.file_machine.proofs.File.take_end.Goals as goal

pub returns-then-b-gt0 : goal.returns-then-b-gt0
returns-then-b-gt0 g c = let a = c.args in c.ended.ensures ∙ end_left (file_reader g.S.Series.kind) a.self a.b.now (omega arith)

pub returns : goal.returns
returns g c = let a = c.args in c.ended-2.ensures ∙ end_done (file_reader g.S.Series.kind) a.self a.b.now (omega arith)
