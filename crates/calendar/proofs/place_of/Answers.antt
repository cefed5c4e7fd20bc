-- `calendar::place_of` meets its contract: the smaller of two numbers is the definition's choice.
-- Assumes nothing.
use mathlib.Core.Path.{◌≡◌, ◌∙◌}
use Prim.Native.Nat.{ℕ, ◌<◌, min}
use native.Mathlib.Decide.{dec_lt}
use native.Mathlib.Omega.{arith}
use borrow.Author.Tests.{lt-ltb, le-ltb}
use Rattle.calendar.specs.Marks.{last_mark, mark_place}
use Rattle.calendar.proofs.place_of.Goals as goal

smaller : (d : ℕ) → min d last_mark ≡ mark_place d
smaller d = go (dec_lt d last_mark)
  where
    go : Dec (d < last_mark) → min d last_mark ≡ mark_place d
    go (yes h) = rw (lt-ltb d last_mark h) (omega arith)
    go (no h) = rw (le-ltb d last_mark (omega arith)) (omega arith)

pub returns : goal.returns
returns c = let e = rw c.from.ensures at c.min.ensures in (e ∙ smaller _, omega (arith, e))
