-- How the code works inside: it finds one value, the cut's limit, at which a season is cut. How many quarters are kept
-- at the most, which is the edition's limit, is `most` here. Quarters q count from 0. Nothing of this is promised to a
-- caller.
use Rattle.std.specs.Prelude.{Bool, ◌&&◌, ◌||◌, List, ℕ, ◌*◌, ◌/◌, ◌≤◌, ltb, eqb, get_or}
use Rattle.ranges.specs.Ranges.{count_over}
use Rattle.answers.specs.declared.Edition.{Edition}
use Rattle.answers.specs.Edition.{whole_share}
use Rattle.answers.specs.Ruling.{day_quarters}

-- the line of an edition as a value, rounded down: what is higher is above the line
abbrev pub line_of : Edition → ℕ → ℕ
line_of ed peak = ed.line * peak / whole_share

-- how many quarters of a curve are higher than a limit
unfoldable pub higher_than : List ℕ → ℕ → ℕ
higher_than curve limit = count_over (λ q. ltb limit (get_or curve q 0)) day_quarters

-- `most` quarters or more are higher than the limit `low`, and no more than `most` higher than `high`
abbrev pub MostBetween : List ℕ → ℕ → ℕ → ℕ → Type 0
MostBetween curve most low high = (most ≤ higher_than curve low) × (higher_than curve high ≤ most)

-- how many quarters before quarter q are equal to a limit
unfoldable pub equals_before : List ℕ → ℕ → ℕ → ℕ
equals_before curve limit q = count_over (λ p. eqb (get_or curve p 0) limit) q

-- is quarter q kept by a cut: is it higher than the limit, or one of the first `equals` quarters that are equal to it?
unfoldable pub kept_at : List ℕ → ℕ → ℕ → ℕ → Bool
kept_at curve limit equals q =
    ltb limit (get_or curve q 0) || (eqb (get_or curve q 0) limit && ltb (equals_before curve limit q) equals)
