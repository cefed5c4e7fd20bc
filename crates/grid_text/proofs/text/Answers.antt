-- `grid_text::text` meets its contract, a stage for each return.
-- Assumes nothing.
use mathlib.Core.List.{[], ◌∷◌}
use Rattle.lines.specs.Figures.{refused_line}
use Rattle.texts.proofs.Text.{put_as}
use Rattle.grid_text.proofs.text.Goals as goal

pub returns-in-Going : goal.returns-in-Going
returns-in-Going c = rw c.in-Going.is c.refused.ensures

pub returns-in-Refused : goal.returns-in-Refused
returns-in-Refused c =
    rw c.in-Refused.is (put_as (λ i. refused_line (c.from.ensures i ∷ [])) c.refused-in-Refused.ensures)

pub returns-in-BadReading : goal.returns-in-BadReading
returns-in-BadReading c = rw c.in-BadReading.is c.refused_at.ensures

pub returns-in-Complete : goal.returns-in-Complete
returns-in-Complete c = rw c.in-Complete.is c.closed.ensures
