-- `grid::opens` meets its contract, a law for each return.
-- Assumes nothing.
use mathlib.Core.Path.{◌≡◌, sym, ◌∙◌}
use mathlib.Core.Bool.{false}
use Rattle.answers.specs.Ruling.{lacks_year}
use Rattle.grid.proofs.Answered.{open_year, open_level, open_done}
use Rattle.grid.proofs.opens.Goals.{Else-lacks_year}
use Rattle.grid.proofs.opens.Goals as goal

year_at : (e : Else-lacks_year) → lacks_year e.args.edition e.args.year ≡ false
year_at e = sym e.lacks_year.ensures ∙ e.if-lacks_year.false

pub returns-then-lacks_year : goal.returns-then-lacks_year
returns-then-lacks_year c = open_year _ _ _ (sym c.lacks_year.ensures ∙ c.if-lacks_year.true)

pub returns-then-level_out : goal.returns-then-level_out
returns-then-level_out c = open_level _ _ _ (year_at (goal.at.returns-then-level_out c).Else-lacks_year) (sym c.level_out.ensures ∙ c.if-level_out.true)

pub returns : goal.returns
returns c = open_done _ _ _ (year_at (goal.at.returns c).Else-lacks_year) (sym c.level_out.ensures ∙ c.if-level_out.false)
