-- How the code works inside: four days of one season are laid over the curves at once, where none of them is a Sunday
-- of the clock change. Nothing of this is promised to a caller.
use Rattle.std.specs.Prelude.{◌≡◌, List, ℕ, ◌+◌, ◌*◌, ◌/◌, ◌%◌, ◌≤◌, ◌<◌, max, eqb, length, get_or}
use Rattle.ranges.specs.Ranges.{largest_over, number_if, table}
use Rattle.answers.specs.Ruling.{day_quarters}

-- how many readings four usual days have
abbrev pub four_days : ℕ
four_days = 384

-- the highest of the four days' readings in quarter q, from 0
unfoldable pub four_top : List ℕ → ℕ → ℕ
four_top four q = largest_over (λ k. get_or four (day_quarters * k + q) 0) 4

-- curves with four days of season s, from 1, laid over them
unfoldable pub overlaid : ℕ → List ℕ → List ℕ → List ℕ
overlaid s flat four =
    table (λ i. max (get_or flat i 0) (number_if (eqb s (i / day_quarters + 1)) (four_top four (i % day_quarters)))) (length flat)

-- a stretch of days from `from` on that ends at r, no later than at `end`, and does not have this Sunday
pub record Without (sunday from end r : ℕ) : Type 0 where
  pub at_least : from ≤ r
  pub at_most : r ≤ end
  pub none : (k : ℕ) → from ≤ k → k < r → k ≡ sunday → ⊥
