-- `window_lines::Season::add_runs` meets its contract. The loop's invariant: the runs that begin before quarter q are
-- written.
-- Assumes nothing.
use Rattle.answers.specs.Ruling.{day_quarters}
use Rattle.window_lines.specs.Runs.{quarters, run_text}
use Rattle.texts.proofs.Writing.{Laid}
use Rattle.window_lines.proofs.Season.add_runs.Given as goal

abbrev pub invariant-loop-q : goal.invariant-loop-q
invariant-loop-q l = Laid (run_text l.self.number (quarters l.self.set.now)) day_quarters l.initial.text l.q l.text
