-- The cases of the rules for a day, each with the code's answer on the left.
-- Assumes nothing.
use mathlib.Core.Path.{◌≡◌}
use mathlib.Core.Bool.{Bool, true, false, not, ◌||◌, or-true}
use Prim.Native.Nat.{ℕ, ◌+◌, ◌-◌, ◌≤◌, ◌<◌}
use native.Mathlib.Omega.{arith}
use borrow.Author.Tests.{le-leb, lt-leb, eq-eqb, ne_eqb}
use lib.Dec.{leb}
use Rattle.day_kinds.specs.declared.DayKind.TheVariants.{Windows, Weekend, Listed, Christmas, Bridge}
use Rattle.dates.specs.Dates.{year_days, day_of, weekday_of, saturday}
use Rattle.day_kinds.specs.Kinds.{christmas, free, candidate, monday_candidate, friday_candidate, bridge, kind_by}
use Rattle.dates.proofs.Months.{year_end}

-- 24 December is the eighth day from the year's end
eve : (y : ℕ) → year_days y - 7 ≡ day_of y 12 24
eve y = omega (arith, year_end y)

pub christmas_by : (y d n : ℕ) → n ≡ year_days y → (leb d 1 || leb (n - 7) d) ≡ christmas y d
unfolding christmas
christmas_by y d n e = rw (e, eve y)

-- the last eight days of a year are free, and so is what follows them
pub christmas_late : (y d : ℕ) → year_days y ≤ d + 7 → christmas y d ≡ true
unfolding christmas
christmas_late y d h = simp (le-leb (day_of y 12 24) d (omega (arith, eve y))) (or-true (leb d 1))

module _ (y : ℕ) (isListed : ℕ → Bool) (d : ℕ) where
  -- free by another ground than that of bridge days
  pub free_weekend : saturday ≤ weekday_of y d → true ≡ free y isListed d
  unfolding free
  free_weekend h = simp (le-leb _ _ h)

  module _ (h : weekday_of y d < saturday) where
    pub free_listed : isListed d ≡ true → true ≡ free y isListed d
    unfolding free
    free_listed e = simp (lt-leb _ _ h, e)

    pub free_rest : isListed d ≡ false → christmas y d ≡ free y isListed d
    unfolding free
    free_rest e = simp (lt-leb _ _ h, e)

  -- candidates
  module _ (w n : ℕ) where
    pub candidate_other : (weekday_of y d ≡ w → ⊥) → false ≡ candidate y isListed w n d
    unfolding candidate
    candidate_other h = simp (ne_eqb _ _ h)

    pub candidate_unlisted : weekday_of y d ≡ w → isListed n ≡ false → false ≡ candidate y isListed w n d
    unfolding candidate
    candidate_unlisted h e = simp (eq-eqb _ _ h, e)

    pub candidate_rest : weekday_of y d ≡ w → isListed n ≡ true → not (free y isListed d) ≡ candidate y isListed w n d
    unfolding candidate
    candidate_rest h e = simp (eq-eqb _ _ h, e)

  -- bridge days
  pub bridge_monday : monday_candidate y isListed d ≡ true → true ≡ bridge y isListed d
  unfolding bridge
  bridge_monday e = simp e

  pub bridge_friday :
      {m : ℕ}
      → m ≡ d - 4
      → monday_candidate y isListed d ≡ false
      → friday_candidate y isListed d ≡ true
      → not (monday_candidate y isListed m) ≡ bridge y isListed d
  unfolding bridge
  bridge_friday q e f = simp (q, e, f)

  pub bridge_none : monday_candidate y isListed d ≡ false → friday_candidate y isListed d ≡ false → false ≡ bridge y isListed d
  unfolding bridge
  bridge_none e f = simp (e, f)

  -- kinds, in their order
  pub kind_weekend : saturday ≤ weekday_of y d → Weekend ≡ kind_by y isListed d
  unfolding kind_by
  kind_weekend h = simp (le-leb _ _ h)

  module _ (h : weekday_of y d < saturday) where
    pub kind_listed : isListed d ≡ true → Listed ≡ kind_by y isListed d
    unfolding kind_by
    kind_listed e = simp (lt-leb _ _ h, e)

    module _ (u : isListed d ≡ false) where
      pub kind_christmas : christmas y d ≡ true → Christmas ≡ kind_by y isListed d
      unfolding kind_by
      kind_christmas e = simp (lt-leb _ _ h, u, e)

      module _ (x : christmas y d ≡ false) where
        pub kind_bridge : bridge y isListed d ≡ true → Bridge ≡ kind_by y isListed d
        unfolding kind_by
        kind_bridge e = simp (lt-leb _ _ h, u, x, e)

        pub kind_windows : bridge y isListed d ≡ false → Windows ≡ kind_by y isListed d
        unfolding kind_by
        kind_windows e = simp (lt-leb _ _ h, u, x, e)
