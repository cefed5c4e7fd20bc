-- `day_figures::masked_usual` meets its contract. The loop's invariant: `high` is the highest of what is left of the
-- first readings, each of which stands for the quarter of its position.
-- Assumes nothing.
use mathlib.Core.Path.{◌≡◌}
use Prim.Native.Nat.{ℕ, ◌≤◌}
use lib.Bits.{bit_and}
use lib.ListN.{length, get_or}
use Rattle.ranges.specs.Ranges.{largest_over}
use Rattle.answers.specs.Ruling.{day_quarters}
use Rattle.day_figures.specs.Day.{alone}
use Rattle.day_figures.proofs.masked_usual.Given as goal

abbrev pub invariant-loop-reading : goal.invariant-loop-reading
invariant-loop-reading l =
    (length l.yielded ≤ day_quarters)
    × (l.high ≡ largest_over (λ (k : ℕ). bit_and (alone l.day k) (get_or l.masks k 0)) (length l.yielded))
