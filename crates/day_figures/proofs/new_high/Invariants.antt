-- `day_figures::new_high` meets its contract. The loop's invariant: after the first p readings there is an H or none,
-- this is its reading, and there it stands, for whichever figures the loop began with.
-- Assumes nothing.
use mathlib.Core.Path.{◌≡◌}
use mathlib.Core.Bool.{cond, ◌||◌}
use Prim.Native.Nat.{ℕ, ◌+◌, ◌-◌, ◌≤◌, ◌<◌}
use lib.Dec.{ltb}
use lib.ListN.{length}
use Rattle.std.specs.Prelude.{unwrap_or, IfSome}
use Rattle.tariff.specs.declared.Figures.{Figures}
use Rattle.figures.specs.Figures.{record_to, taken_in}
use Rattle.day_figures.specs.Day.{alone, in_row, row_if}
use Rattle.day_figures.specs.Passes.{high_at}
use Rattle.day_figures.proofs.Sunday.{plain_to}
use Rattle.day_figures.proofs.new_high.Given as goal

abbrev pub invariant-loop-p : goal.invariant-loop-p
invariant-loop-p l =
    let n = length l.day in
    let at = unwrap_or l.at n in
    (l.p ≤ n)
    × (l.any ≡ (l.initial.any || ltb at n))
    × (l.high ≡ cond (ltb at n) (alone l.day at) l.initial.high)
    × ((f : Figures)
    → f.any ≡ l.initial.any
    → f.high ≡ l.initial.high
    → (d : ℕ)
    → high_at (plain_to f l.day l.p) d l.day at
    ≡ taken_in f (d + 1) (record_to n l.p (in_row n (row_if l.flag l.row)) (alone l.day)))
    × IfSome l.at (λ p. p < n)

abbrev pub decreases-loop-p : goal.decreases-loop-p
decreases-loop-p l = length l.day - l.p
