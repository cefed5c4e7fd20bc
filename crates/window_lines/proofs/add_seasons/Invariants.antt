-- `window_lines::add_seasons` meets its contract. The loop's invariant: the lines of the first k seasons are written.
-- Assumes nothing.
use Rattle.sheet.specs.Windows.{seasons}
use Rattle.window_lines.specs.Runs.{season_in}
use Rattle.texts.proofs.Writing.{Laid}
use Rattle.window_lines.proofs.add_seasons.Given as goal

abbrev pub invariant-loop-k : goal.invariant-loop-k
invariant-loop-k l = Laid (season_in l.windows) seasons l.initial.text l.k l.text
