-- Laws of the grid file's header: its fields' widths, where they start, and what refuses each;
-- behind the last field there is none.
-- Assumes nothing.
use mathlib.Core.Path.{◌≡◌, refl, sym, ap, ◌∙◌}
use mathlib.Core.List.{List, [], ◌∷◌}
use Prim.Native.Nat.{ℕ, zero, suc, ◌≤◌, ◌<◌}
use native.Mathlib.Decide.{dec_lt}
use native.Mathlib.Omega.{arith}
use borrow.Author.Tests.{eqb-true}
use lib.Dec.{eqb}
use lib.ListN.{get_or, get_or-eq_default}
use Rattle.ranges.specs.Ranges.{joined, sum_over, all_over}
use Rattle.ranges.proofs.Tests.{all_at}
use Rattle.editions.specs.declared.Editions.{Editions}
use Rattle.fields.specs.Layout.{Field, no_field, field_at, width_at, layout_of, start_of, Fits}
use Rattle.fields.specs.Common.{mark_field, version_field, year_field, level_field}
use Rattle.fields.proofs.Header.{field_past, Tabled, tabled, fits_by}
use Rattle.grid_head.specs.Header.{grid_fields, grid_layout, grid_head_most}

-- the widths of the fields, and the places where they start
abbrev pub grid_widths : List ℕ
grid_widths = 3 ∷ 2 ∷ 2 ∷ 1 ∷ []

abbrev pub grid_starts : List ℕ
grid_starts = 0 ∷ 3 ∷ 5 ∷ 7 ∷ []

in_table : (k : ℕ) → k < 4 → Tabled grid_widths grid_starts 3 grid_head_most k
unfolding all_over joined
in_table k l = tabled grid_widths grid_starts 3 grid_head_most 4 refl k l

module _ (es : Editions) (b : List ℕ) where
  pub grid_count : (grid_layout es b).count ≡ 4
  unfolding grid_layout layout_of
  grid_count = refl

  pub grid_width : (k : ℕ) → k < 4 → get_or grid_widths k 0 ≡ (grid_layout es b).width k
  unfolding grid_layout layout_of mark_field version_field year_field level_field all_over joined
  grid_width k l = eqb-true _ _ (all_at (λ i. eqb (get_or grid_widths i 0) ((grid_layout es b).width i)) 4 refl k l)

  pub grid_start_law : (k : ℕ) → k < 4 → get_or grid_starts k 0 ≡ start_of (grid_layout es b) k
  unfolding grid_layout layout_of mark_field version_field year_field level_field start_of sum_over all_over joined
  grid_start_law k l = eqb-true _ _ (all_at (λ i. eqb (get_or grid_starts i 0) (start_of (grid_layout es b) i)) 4 refl k l)

  pub grid_size : start_of (grid_layout es b) 4 ≡ 8
  unfolding grid_layout layout_of mark_field version_field year_field level_field start_of sum_over joined
  grid_size = refl

  -- what refuses a field
  pub grid_refusal : (k : ℕ) → k < 4 → (field_at (grid_fields es b) k).refused_at (get_or grid_starts k 0) ≡ (grid_layout es b).refusal k
  unfolding grid_layout layout_of mark_field version_field year_field level_field sum_over joined
  grid_refusal zero l = refl
  grid_refusal (suc zero) l = refl
  grid_refusal (suc (suc zero)) l = refl
  grid_refusal (suc (suc (suc zero))) l = refl
  grid_refusal (suc (suc (suc (suc k)))) l = absurd (omega arith)

  -- behind the last field: no byte, at the header's end, and no number
  module _ (k : ℕ) (m : 4 ≤ k) where
    pub width_none : 0 ≡ (grid_layout es b).width k
    unfolding grid_layout layout_of
    width_none = sym (ap (λ (f : Field). f.width) (get_or-eq_default (grid_fields es b) no_field {n = k} m))

    pub refusal_none : 0 ≡ (grid_layout es b).refusal k
    unfolding grid_layout layout_of
    refusal_none =
        sym (ap (λ (f : Field). f.refused_at (sum_over (width_at (grid_fields es b)) k)) (get_or-eq_default (grid_fields es b) no_field {n = k} m))

  pub start_none : (k : ℕ) → 4 ≤ k → 8 ≡ start_of (grid_layout es b) k
  start_none k m = sym grid_size ∙ field_past (grid_layout es b) 4 width_none k m

  pub grid_fits : (k : ℕ) → Fits (grid_layout es b) 3 grid_head_most k
  grid_fits k = go (dec_lt k 4)
    where
      go : Dec (k < 4) → Fits (grid_layout es b) 3 grid_head_most k
      go (yes l) =
          fits_by grid_count (grid_start_law k l) (grid_width k l) (in_table k l).few (in_table k l).room
          (λ z. l) (λ z. absurd (omega (arith, (in_table k l).some)))
      go (no m) =
          fits_by grid_count (start_none k (omega arith)) (width_none k (omega arith)) (omega arith) (omega arith)
          (λ z. absurd (omega arith)) (λ z. omega arith)

-- the number that refuses field k, where k is i
pub refusal_at :
    (es : Editions) (b : List ℕ) (i : ℕ) {k : ℕ}
    → k ≡ i
    → i < 4
    → (field_at (grid_fields es b) i).refused_at (get_or grid_starts i 0) ≡ (grid_layout es b).refusal k
refusal_at es b i e l = grid_refusal es b i l ∙ ap (grid_layout es b).refusal (sym e)
