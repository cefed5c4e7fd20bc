-- `window_lines::add_time` meets its contract: its five bytes are the time's.
-- Assumes nothing.
use native.Mathlib.Omega.{arith}
use Rattle.texts.proofs.Writing.{fitted}
use Rattle.window_lines.specs.Runs.{time_of}
use Rattle.window_lines.proofs.add_time.Goals as goal

pub returns : goal.returns
unfolding time_of
returns c = fitted c.add.ensures (omega (arith, c.requires))
