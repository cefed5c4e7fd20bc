-- `legal_readings::first_above` meets its contract: where the highest reading is legal there is no place, and else the
-- first is found.
-- Assumes nothing.
use mathlib.Core.Path.{sym, ◌∙◌}
use borrow.Author.Tests.{ltb-false}
use Rattle.readings.specs.Legal.{highest_of}
use Rattle.readings.proofs.Legal.{position_above, legal_place}
use Rattle.legal_readings.proofs.first_above.Goals as goal

pub returns-then-not-any_above : goal.returns-then-not-any_above
returns-then-not-any_above c =
    let a = c.args in
    legal_place a.limit a.readings.now (ltb-false a.limit (highest_of a.readings.now) (sym c.any_above.ensures ∙ c.if-not-any_above.true))

pub returns : goal.returns
returns c = let a = c.args in c.searched.ensures ∙ position_above a.limit a.readings.now
