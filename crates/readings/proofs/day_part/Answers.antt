-- `readings::day_part` meets its contract: nothing in a year without an edition, else the part of the run.
-- Assumes nothing.
use mathlib.Core.Path.{◌≡◌, sym, ◌∙◌}
use Rattle.editions.specs.Editions.{year_out}
use Rattle.readings.specs.Part.{run_year}
use Rattle.readings.proofs.Part.{no_year_part, year_part}
use Rattle.readings.proofs.day_part.Goals.{After-year_out}
use Rattle.readings.proofs.day_part.Goals as goal

-- what the test of the year answered, as the definition has it
tested :
    (e : After-year_out)
    → let a = e.args in e.year_out.result ≡ year_out a.editions (run_year a.run)
tested e = rw e.run_year.ensures at e.year_out.ensures

pub returns-then-year_out : goal.returns-then-year_out
returns-then-year_out c = no_year_part _ _ _ _ (sym (tested (goal.at.returns-then-year_out c).After-year_out) ∙ c.if-year_out.true)

pub returns : goal.returns
returns c = c.run_part.ensures ∙ year_part _ _ _ _ (sym (tested (goal.at.returns c).After-year_out) ∙ c.if-year_out.false)
