-- `grid_text::refused_at` meets its contract: 5, then the day and the quarter of its place.
-- Assumes nothing.
use mathlib.Core.List.{[], ◌∷◌}
use Rattle.lines.specs.Figures.{refused_line}
use Rattle.texts.proofs.Text.{put_as}
use Rattle.grid_text.proofs.refused_at.Goals as goal

pub returns : goal.returns
returns c = put_as (λ i. refused_line (5 ∷ c.from.ensures i ∷ c.from-2.ensures i ∷ [])) c.refused_text.ensures
