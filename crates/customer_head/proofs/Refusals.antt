-- The number that refuses a field of a customer file's header, by what the code has found: whether a test fails, and
-- the number that goes with it.
-- Assumes nothing.
use mathlib.Core.Path.{◌≡◌, refl, sym, ap, ◌∙◌}
use mathlib.Core.Bool.{Bool, true, false, cond, not}
use mathlib.Core.List.{List, [], ◌∷◌}
use Prim.Native.Nat.{ℕ, zero, suc, ◌+◌, ◌-◌, ◌*◌, ◌%◌, ◌≤◌, ◌<◌}
use native.Mathlib.Omega.{arith}
use borrow.Author.Tests.{eq-eqb, ne_eqb, leb-true}
use lib.Dec.{leb, ltb, eqb}
use lib.ListN.{get_or, get_or-eq_default}
use Rattle.ranges.specs.Ranges.{joined, all_over, number_if}
use Rattle.ranges.proofs.Tests.{all_at}
use Rattle.answers.specs.declared.Edition.{Edition}
use Rattle.answers.specs.Ruling.{holidays_most, level_out, capacity_out, energy_out}
use Rattle.editions.specs.Editions.{year_out}
use Rattle.encoding.specs.Bytes.{two_at, four_at, other_mark, version_out}
use Rattle.sheet.specs.Bytes.{mark, season_full}
use Rattle.editions.specs.declared.Editions.{Editions}
use Rattle.fields.specs.Layout.{Field, no_field, field_at}
use Rattle.fields.specs.Common.{mark_field, version_field, year_field, level_field}
use Rattle.customer_head.specs.Header.{customer_edition, customer_mark, season_field, option_field, count_field, capacity_field, energy_field, first_fields, price_fields, customer_layout}
use Rattle.customer_head.proofs.CustomerLayout.{first_starts, refusal_first, refusal_at, refusal_season}

-- the numbers that refuse them
abbrev pub first_numbers : List ℕ
first_numbers = 12 ∷ 12 ∷ 12 ∷ 12 ∷ 1 ∷ 2 ∷ 12 ∷ 12 ∷ 12 ∷ 12 ∷ 12 ∷ 3 ∷ []

-- a test and its number
refused_by : (t : Bool) (m : ℕ) {r : ℕ} → 0 < m → number_if t m ≡ r → t ≡ not (eqb r 0)
refused_by true m {r} l e =
    let f : m ≡ r = e in
    sym (ap not (ne_eqb r 0 (λ z. absurd (omega arith))))
refused_by false m l e = ap (λ (x : ℕ). not (eqb x 0)) e

numbered : (t : Bool) (m : ℕ) → number_if (not (eqb (number_if t m) 0)) m ≡ number_if t m
numbered true zero = refl
numbered true (suc m) = rw (ne_eqb (suc m) 0 (λ z. absurd (omega arith)))
numbered false m = refl

number_some : (k : ℕ) → k < 12 → 1 ≤ get_or first_numbers k 0
unfolding all_over joined
number_some k l = leb-true _ _ (all_at (λ i. leb 1 (get_or first_numbers i 0)) 12 refl k l)

-- the first fields
module _ (es : Editions) (b : List ℕ) where
  first_numbers_law :
      (k : ℕ)
      → k < 12
      → (i : ℕ)
      → number_if (not (eqb ((field_at (first_fields es b) k).refused_at i) 0)) (get_or first_numbers k 0) ≡ (field_at (first_fields es b) k).refused_at i
  unfolding mark_field version_field year_field level_field season_field option_field count_field
  first_numbers_law zero l i = numbered (other_mark customer_mark b i) 12
  first_numbers_law (suc zero) l i = numbered (version_out b i) 12
  first_numbers_law (suc (suc zero)) l i = numbered (other_mark mark b i) 12
  first_numbers_law (suc (suc (suc zero))) l i = numbered (version_out b i) 12
  first_numbers_law (suc (suc (suc (suc zero)))) l i = numbered (year_out es (two_at b i)) 1
  first_numbers_law (suc (suc (suc (suc (suc zero))))) l i = numbered (level_out (get_or b i 0)) 2
  first_numbers_law (suc (suc (suc (suc (suc (suc zero)))))) l i = numbered (season_full (customer_edition es b) b i) 12
  first_numbers_law (suc (suc (suc (suc (suc (suc (suc zero))))))) l i = numbered (season_full (customer_edition es b) b i) 12
  first_numbers_law (suc (suc (suc (suc (suc (suc (suc (suc zero)))))))) l i = numbered (season_full (customer_edition es b) b i) 12
  first_numbers_law (suc (suc (suc (suc (suc (suc (suc (suc (suc zero))))))))) l i = numbered (season_full (customer_edition es b) b i) 12
  first_numbers_law (suc (suc (suc (suc (suc (suc (suc (suc (suc (suc zero)))))))))) l i = numbered (ltb 1 (get_or b i 0)) 12
  first_numbers_law (suc (suc (suc (suc (suc (suc (suc (suc (suc (suc (suc zero))))))))))) l i = numbered (ltb holidays_most (get_or b i 0)) 3
  first_numbers_law (suc (suc (suc (suc (suc (suc (suc (suc (suc (suc (suc (suc k)))))))))))) l i = absurd (omega arith)

  pub first_number : (k : ℕ) → k < 12 → number_if (not (eqb ((customer_layout es b).refusal k) 0)) (get_or first_numbers k 0) ≡ (customer_layout es b).refusal k
  first_number k l = rw (← (refusal_first es b k l)) (first_numbers_law k l _)

  -- the test of field i fails exactly where that field is refused
  pub fails_at :
      (k : ℕ) {t : Bool} (i : ℕ)
      → i < 12
      → k ≡ i
      → number_if t (get_or first_numbers i 0) ≡ (field_at (first_fields es b) i).refused_at (get_or first_starts i 0)
      → t ≡ not (eqb ((customer_layout es b).refusal k) 0)
  fails_at k i l e f = refused_by _ (get_or first_numbers i 0) (number_some i l) (f ∙ refusal_at es b i e l)

-- the number of a field, by what the code has found
pub option_no : (b : List ℕ) (i : ℕ) {x : ℕ} → x ≡ get_or b i 0 → number_if (ltb 1 x) 12 ≡ (option_field b).refused_at i
unfolding option_field
option_no b i e = ap (λ (x : ℕ). number_if (ltb 1 x) 12) e

pub count_no : (b : List ℕ) (i : ℕ) {x : ℕ} → x ≡ get_or b i 0 → number_if (ltb 40 x) 3 ≡ (count_field b).refused_at i
unfolding count_field
count_no b i e = ap (λ (x : ℕ). number_if (ltb 40 x) 3) e

-- the prices, from 0: in each row the capacity price, then the energy price
price_field : (b : List ℕ) (j : ℕ) → j < 4 → cond (eqb (j % 2) 0) (capacity_field b) (energy_field b) ≡ field_at (price_fields b) j
price_field b zero l = refl
price_field b (suc zero) l = refl
price_field b (suc (suc zero)) l = refl
price_field b (suc (suc (suc zero))) l = refl
price_field b (suc (suc (suc (suc j)))) l = absurd (omega arith)

pub no_price : (b : List ℕ) (i j : ℕ) → 4 ≤ j → 0 ≡ (field_at (price_fields b) j).refused_at i
no_price b i j l = ap (λ (f : Field). f.refused_at i) (sym (get_or-eq_default (price_fields b) no_field l))

module _ (b : List ℕ) (i : ℕ) {t : Bool} where
  pub season_no : (ed : Edition) → t ≡ season_full ed b i → number_if t 12 ≡ (season_field ed b).refused_at i
  unfolding season_field
  season_no ed e = ap (λ (s : Bool). number_if s 12) e

  module _ (j : ℕ) (l : j < 4) where
    pub capacity_no : j % 2 ≡ 0 → t ≡ capacity_out (four_at b i) → number_if t 6 ≡ (field_at (price_fields b) j).refused_at i
    unfolding capacity_field
    capacity_no m e = ap (λ (s : Bool). number_if s 6) e ∙ ap (λ (f : Field). f.refused_at i) (rw (eq-eqb (j % 2) 0 m) at (price_field b j l))

    pub energy_no : (j % 2 ≡ 0 → ⊥) → t ≡ energy_out (four_at b i) → number_if t 6 ≡ (field_at (price_fields b) j).refused_at i
    unfolding energy_field
    energy_no m e = ap (λ (s : Bool). number_if s 6) e ∙ ap (λ (f : Field). f.refused_at i) (rw (ne_eqb (j % 2) 0 m) at (price_field b j l))

-- the test of a season
pub season_fails :
    (es : Editions) (b : List ℕ) (k : ℕ) {t : Bool}
    → 6 ≤ k
    → k < 10
    → t ≡ season_full (customer_edition es b) b (13 + 12 * (k - 6))
    → t ≡ not (eqb ((customer_layout es b).refusal k) 0)
season_fails es b k l m e = refused_by _ 12 (omega arith) (season_no b (13 + 12 * (k - 6)) (customer_edition es b) e ∙ refusal_season es b k l m)
