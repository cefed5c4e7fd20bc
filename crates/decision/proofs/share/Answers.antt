-- `decision::share` meets its contract: the edition's shares are read at the level, of which the first is 1.
-- Assumes nothing.
use mathlib.Core.Path.{◌≡◌, sym, ◌∙◌}
use mathlib.Core.Bool.{false}
use native.Mathlib.Omega.{arith}
use Rattle.answers.specs.Ruling.{share_of, level_out, Level}
use Rattle.answers.proofs.Laws.{level_of}
use Rattle.decision.proofs.share.Goals.{Else-level_out}
use Rattle.decision.proofs.share.Goals as goal

-- what is known past the test
level_at : (e : Else-level_out) → level_out e.args.level ≡ false
level_at e = sym e.level_out.ensures ∙ e.if-level_out.false

legal_at : (e : Else-level_out) → Level e.args.level
legal_at e = (level_of _).0 (level_at e)

pub overflow_sub-level : goal.overflow_sub-level
overflow_sub-level c = let legal = legal_at c in omega arith

pub bounds-edition-from : goal.bounds-edition-from
bounds-edition-from c = let legal = legal_at (goal.at.bounds-edition-from c).Else-level_out in omega (arith, c.from.ensures)

pub returns : goal.returns
unfolding share_of
returns c = (level_at (goal.at.returns c).Else-level_out, rw c.from.ensures)
