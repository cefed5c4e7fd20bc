-- The table of the fields before the holidays: its starts, its widths, and its numbers.
-- Assumes nothing.
use mathlib.Core.Path.{◌≡◌, refl}
use mathlib.Core.List.{List, [], ◌∷◌}
use Prim.Native.Nat.{ℕ, ◌<◌}
use borrow.Author.Tests.{eqb-true}
use lib.Dec.{eqb}
use lib.ListN.{get_or}
use Rattle.ranges.specs.Ranges.{joined, all_over}
use Rattle.ranges.proofs.Tests.{all_at}
use Rattle.customer_head.specs.declared.First.{First}
use Rattle.customer_head.proofs.CustomerLayout.{first_starts, first_widths}
use Rattle.customer_head.proofs.Refusals.{first_numbers}

abbrev pub firsts : List First
firsts =
    record { start = 0; width = 3; number = 12 }
    ∷ record { start = 3; width = 2; number = 12 }
    ∷ record { start = 5; width = 3; number = 12 }
    ∷ record { start = 8; width = 2; number = 12 }
    ∷ record { start = 10; width = 2; number = 1 }
    ∷ record { start = 12; width = 1; number = 2 }
    ∷ record { start = 13; width = 12; number = 12 }
    ∷ record { start = 25; width = 12; number = 12 }
    ∷ record { start = 37; width = 12; number = 12 }
    ∷ record { start = 49; width = 12; number = 12 }
    ∷ record { start = 61; width = 1; number = 12 }
    ∷ record { start = 62; width = 1; number = 3 }
    ∷ []

abbrev pub at : ℕ → First
at k = get_or firsts k (record { start = 0; width = 0; number = 0 })

pub starts : (k : ℕ) → k < 12 → (at k).start ≡ get_or first_starts k 0
unfolding all_over joined
starts k l = eqb-true _ _ (all_at (λ i. eqb (at i).start (get_or first_starts i 0)) 12 refl k l)

pub widths : (k : ℕ) → k < 12 → (at k).width ≡ get_or first_widths k 0
unfolding all_over joined
widths k l = eqb-true _ _ (all_at (λ i. eqb (at i).width (get_or first_widths i 0)) 12 refl k l)

pub numbers : (k : ℕ) → k < 12 → (at k).number ≡ get_or first_numbers k 0
unfolding all_over joined
numbers k l = eqb-true _ _ (all_at (λ i. eqb (at i).number (get_or first_numbers i 0)) 12 refl k l)
