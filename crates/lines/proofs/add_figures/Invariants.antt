-- `lines::add_figures` meets its contract. The loop's invariant: the first i fields are written.
-- Assumes nothing.
use lib.ListN.{length}
use Rattle.lines.specs.Figures.{field_in}
use Rattle.texts.proofs.Writing.{Laid}
use Rattle.lines.proofs.add_figures.Given as goal

abbrev pub invariant-loop-i : goal.invariant-loop-i
invariant-loop-i l = Laid (field_in l.figures) (length l.figures) l.initial.text l.i l.text
