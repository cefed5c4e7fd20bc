-- Laws of a customer file's header, in its three rows: the twelve first fields, the holidays, the prices. How many
-- fields there are, how wide each is and where it starts, and the number that refuses it.
-- Assumes nothing.
use mathlib.Core.Path.{◌≡◌, refl, sym, ap, ◌∙◌}
use mathlib.Core.List.{List, [], ◌∷◌, ◌++◌}
use Prim.Native.Nat.{ℕ, zero, suc, ◌+◌, ◌-◌, ◌*◌, ◌≤◌, ◌<◌, min}
use native.Mathlib.Decide.{dec_lt}
use native.Mathlib.Omega.{arith}
use borrow.Author.Tests.{eqb-true}
use lib.Dec.{eqb}
use lib.ListN.{length, get_or, take, drop, length-take, length-drop, length-append, get_or-append, get_or-map, get_or-eq_default}
use lib.Seq.{get_or-append-add, length-take-le, get_or-take, get_or-drop, ext_get_or}
use Rattle.ranges.specs.Ranges.{joined, sum_over, all_over, number_if, table}
use Rattle.holidays.specs.Holidays.{before}
use Rattle.encoding.specs.Bytes.{two_at}
use Rattle.sheet.specs.Bytes.{sheet_size}
use Rattle.editions.specs.declared.Editions.{Editions}
use Rattle.fields.specs.Layout.{Field, no_field, field_at, width_at, layout_of, start_of, Fits, head_size}
use Rattle.fields.specs.Common.{mark_field, version_field, year_field, level_field}
use Rattle.customer_head.specs.Header.{customer_edition, customer_head_most, sheet_at, option_at, sheet_part, holidays_at, holiday_count, holidays_of, prices_at, season_field, option_field, count_field, holiday_out, holiday_field, capacity_field, energy_field, first_fields, price_fields, customer_fields, customer_layout}
use Rattle.ranges.proofs.Sums.{sum_none, sum_suc, sum_add, sum_cong}
use Rattle.ranges.proofs.Tests.{all_at}
use Rattle.ranges.proofs.Tables.{length_table, get_d_table}
use Rattle.fields.proofs.Bytes.{part_at}
use Rattle.fields.proofs.Header.{Tabled, tabled, fits_by}

-- values that are all one number add up to a multiple of it
sum_same : (f : ℕ → ℕ) (c n : ℕ) → ((k : ℕ) → k < n → f k ≡ c) → sum_over f n ≡ n * c
sum_same f c zero h = omega (arith, sum_none f)
sum_same f c (suc n) h = omega (arith, sum_suc f n, sum_same f c n (λ k l. h k (omega arith)), h n (omega arith))

-- the widths of the first fields, and the places where they start
abbrev pub first_widths : List ℕ
first_widths = 3 ∷ 2 ∷ 3 ∷ 2 ∷ 2 ∷ 1 ∷ 12 ∷ 12 ∷ 12 ∷ 12 ∷ 1 ∷ 1 ∷ []

abbrev pub first_starts : List ℕ
first_starts = 0 ∷ 3 ∷ 5 ∷ 8 ∷ 10 ∷ 12 ∷ 13 ∷ 25 ∷ 37 ∷ 49 ∷ 61 ∷ 62 ∷ []

added : (k : ℕ) → k < 12 → sum_over (λ j. get_or first_widths j 0) k ≡ get_or first_starts k 0
unfolding all_over sum_over joined
added k l = eqb-true _ _ (all_at (λ i. eqb (sum_over (λ j. get_or first_widths j 0) i) (get_or first_starts i 0)) 12 refl k l)

added_all : sum_over (λ j. get_or first_widths j 0) 12 ≡ 63
unfolding sum_over joined
added_all = refl

in_table : (k : ℕ) → k < 12 → Tabled first_widths first_starts 12 63 k
unfolding all_over joined
in_table k l = tabled first_widths first_starts 12 63 12 refl k l

module _ (es : Editions) (b : List ℕ) where
  abbrev n : ℕ
  n = holiday_count b

  abbrev fields : List Field
  fields = customer_fields es b

  abbrev rest : List Field
  rest = table (holiday_field b) n ++ price_fields b

  pub count_few : n ≤ 40
  count_few = omega arith

  -- how many fields
  pub count_is : (customer_layout es b).count ≡ 16 + n
  unfolding customer_layout layout_of
  count_is =
      omega (
        arith,
        length-append (first_fields es b) rest,
        length-append (table (holiday_field b) n) (price_fields b),
        length_table (holiday_field b) n,
      )

  -- what each is
  first_at : (k : ℕ) → k < 12 → field_at fields k ≡ field_at (first_fields es b) k
  first_at k l = get_or-append (first_fields es b) rest no_field k l

  holiday_at : (j : ℕ) → j < n → field_at fields (12 + j) ≡ holiday_field b j
  holiday_at j l =
      get_or-append-add (first_fields es b) rest j no_field
      ∙ get_or-append (table (holiday_field b) n) (price_fields b) no_field j (omega (arith, length_table (holiday_field b) n))
      ∙ get_d_table (holiday_field b) n j no_field l

  price_at : (j : ℕ) → field_at fields (12 + (n + j)) ≡ field_at (price_fields b) j
  price_at j =
      get_or-append-add (first_fields es b) rest (n + j) no_field
      ∙ ap (λ (m : ℕ). field_at rest (m + j)) (sym (length_table (holiday_field b) n))
      ∙ get_or-append-add (table (holiday_field b) n) (price_fields b) j no_field

  -- how wide
  first_widths_law : (k : ℕ) → k < 12 → width_at fields k ≡ get_or first_widths k 0
  unfolding mark_field version_field year_field level_field season_field option_field count_field
  first_widths_law k l = ap (λ (f : Field). f.width) (first_at k l) ∙ sym (get_or-map (λ (f : Field). f.width) (first_fields es b) k no_field)

  holiday_widths : (j : ℕ) → j < n → width_at fields (12 + j) ≡ 2
  unfolding holiday_field
  holiday_widths j l = ap (λ (f : Field). f.width) (holiday_at j l)

  four_wide : (j : ℕ) → j < 4 → width_at (price_fields b) j ≡ 4
  unfolding capacity_field energy_field
  four_wide zero l = refl
  four_wide (suc zero) l = refl
  four_wide (suc (suc zero)) l = refl
  four_wide (suc (suc (suc zero))) l = refl
  four_wide (suc (suc (suc (suc j)))) l = absurd (omega arith)

  price_widths : (j : ℕ) → j < 4 → width_at fields (12 + (n + j)) ≡ 4
  price_widths j l = ap (λ (f : Field). f.width) (price_at j) ∙ four_wide j l

  -- where it starts
  first_sums : (k : ℕ) → k ≤ 12 → sum_over (width_at fields) k ≡ sum_over (λ j. get_or first_widths j 0) k
  first_sums k l = sum_cong (width_at fields) (λ j. get_or first_widths j 0) k (λ j m. first_widths_law j (omega arith))

  first_starts_law : (k : ℕ) → k < 12 → sum_over (width_at fields) k ≡ get_or first_starts k 0
  first_starts_law k l = first_sums k (omega arith) ∙ added k l

  holiday_starts : (j : ℕ) → j ≤ n → sum_over (width_at fields) (12 + j) ≡ 63 + 2 * j
  holiday_starts j l =
      omega (
        arith,
        sum_add (width_at fields) 12 j,
        first_sums 12 (omega arith),
        added_all,
        sum_same (λ i. width_at fields (12 + i)) 2 j (λ i m. holiday_widths i (omega arith)),
      )

  price_starts : (j : ℕ) → j ≤ 4 → sum_over (width_at fields) (12 + (n + j)) ≡ 63 + 2 * n + 4 * j
  price_starts j l =
      omega (
        arith,
        ap (sum_over (width_at fields)) (regroup j),
        sum_add (width_at fields) (12 + n) j,
        holiday_starts n (omega arith),
        sum_same (λ i. width_at fields (12 + n + i)) 4 j (λ i m. ap (width_at fields) (sym (regroup i)) ∙ price_widths i (omega arith)),
      )
    where
      regroup : (i : ℕ) → 12 + (n + i) ≡ 12 + n + i
      regroup i = omega arith

  -- the number that refuses it
  pub refusal_first : (k : ℕ) → k < 12 → (field_at (first_fields es b) k).refused_at (get_or first_starts k 0) ≡ (customer_layout es b).refusal k
  unfolding customer_layout layout_of
  refusal_first k l = rw (first_at k l, first_starts_law k l)

  pub season_refused : (j : ℕ) → j < 4 → (season_field (customer_edition es b) b).refused_at (13 + 12 * j) ≡ (customer_layout es b).refusal (6 + j)
  season_refused zero l = refusal_first 6 (omega arith)
  season_refused (suc zero) l = refusal_first 7 (omega arith)
  season_refused (suc (suc zero)) l = refusal_first 8 (omega arith)
  season_refused (suc (suc (suc zero))) l = refusal_first 9 (omega arith)
  season_refused (suc (suc (suc (suc j)))) l = absurd (omega arith)

  pub holiday_refused : (j : ℕ) → j < n → number_if (holiday_out b j) 3 ≡ (customer_layout es b).refusal (12 + j)
  unfolding customer_layout layout_of holiday_field
  holiday_refused j l = sym (ap (λ (f : Field). f.refused_at (sum_over (width_at fields) (12 + j))) (holiday_at j l))

  pub price_refused : (j : ℕ) → j < 4 → (field_at (price_fields b) j).refused_at (prices_at b + 4 * j) ≡ (customer_layout es b).refusal (12 + (n + j))
  unfolding customer_layout layout_of
  price_refused j l = rw (price_at j, price_starts j (omega arith))

  -- behind the prices there is no field: no byte at the header's end
  no_widths : (j : ℕ) → width_at fields (12 + (n + (4 + j))) ≡ 0
  no_widths j = ap (λ (f : Field). f.width) (price_at (4 + j) ∙ get_or-eq_default (price_fields b) no_field {n = 4 + j} (omega arith))

  no_starts : (j : ℕ) → sum_over (width_at fields) (12 + (n + (4 + j))) ≡ 79 + 2 * n
  no_starts j =
      omega (
        arith,
        ap (sum_over (width_at fields)) (regroup j),
        sum_add (width_at fields) (12 + (n + 4)) j,
        price_starts 4 (omega arith),
        sum_same (λ i. width_at fields (12 + (n + 4) + i)) 0 j (λ i m. ap (width_at fields) (sym (regroup i)) ∙ no_widths i),
      )
    where
      regroup : (i : ℕ) → 12 + (n + (4 + i)) ≡ 12 + (n + 4) + i
      regroup i = omega arith

  -- the same of field k
  abbrev holiday : ℕ → ℕ
  holiday k = k - 12

  abbrev price : ℕ → ℕ
  price k = k - 12 - n

  module _ (k : ℕ) (l : k < 12) where
    pub width_first : get_or first_widths k 0 ≡ (customer_layout es b).width k
    unfolding customer_layout layout_of
    width_first = sym (first_widths_law k l)

    pub start_first : get_or first_starts k 0 ≡ start_of (customer_layout es b) k
    unfolding customer_layout layout_of start_of
    start_first = sym (first_starts_law k l)

  pub refusal_at : (i : ℕ) {k : ℕ} → k ≡ i → i < 12 → (field_at (first_fields es b) i).refused_at (get_or first_starts i 0) ≡ (customer_layout es b).refusal k
  refusal_at i e l = refusal_first i l ∙ ap (customer_layout es b).refusal (sym e)

  pub refusal_season : (k : ℕ) → 6 ≤ k → k < 10 → (season_field (customer_edition es b) b).refused_at (13 + 12 * (k - 6)) ≡ (customer_layout es b).refusal k
  refusal_season k l m =
      let e : 6 + (k - 6) ≡ k = omega arith in
      season_refused (k - 6) (omega arith) ∙ ap (customer_layout es b).refusal e

  module _ (k : ℕ) (m : 12 ≤ k) where
    here : 12 + holiday k ≡ k
    here = omega arith

    pub start_holiday : k ≤ 12 + n → holidays_at + 2 * holiday k ≡ start_of (customer_layout es b) k
    unfolding customer_layout layout_of start_of
    start_holiday l = sym (holiday_starts (holiday k) (omega arith)) ∙ ap (sum_over (width_at fields)) here

    module _ (l : k < 12 + n) where
      pub width_holiday : 2 ≡ (customer_layout es b).width k
      unfolding customer_layout layout_of
      width_holiday = sym (holiday_widths (holiday k) (omega arith)) ∙ ap (width_at fields) here

      pub refusal_holiday : number_if (holiday_out b (holiday k)) 3 ≡ (customer_layout es b).refusal k
      refusal_holiday = holiday_refused (holiday k) (omega arith) ∙ ap (customer_layout es b).refusal here

  module _ (k : ℕ) (m : 12 + n ≤ k) where
    there : 12 + (n + price k) ≡ k
    there = omega arith

    pub start_price : k ≤ 16 + n → prices_at b + 4 * price k ≡ start_of (customer_layout es b) k
    unfolding customer_layout layout_of start_of
    start_price l = sym (price_starts (price k) (omega arith)) ∙ ap (sum_over (width_at fields)) there

    module _ (l : k < 16 + n) where
      pub width_price : 4 ≡ (customer_layout es b).width k
      unfolding customer_layout layout_of
      width_price = sym (price_widths (price k) (omega arith)) ∙ ap (width_at fields) there

      pub refusal_price : (field_at (price_fields b) (price k)).refused_at (prices_at b + 4 * price k) ≡ (customer_layout es b).refusal k
      refusal_price = price_refused (price k) (omega arith) ∙ ap (customer_layout es b).refusal there

    -- a price, or no field
    pub refusal_rest : (field_at (price_fields b) (price k)).refused_at (start_of (customer_layout es b) k) ≡ (customer_layout es b).refusal k
    unfolding customer_layout layout_of start_of
    refusal_rest = sym (ap (λ (f : Field). f.refused_at (sum_over (width_at fields) k)) (ap (field_at fields) (sym there) ∙ price_at (price k)))

  module _ (k : ℕ) (m : 16 + n ≤ k) where
    behind : 12 + (n + (4 + (k - 16 - n))) ≡ k
    behind = omega arith

    pub start_none : 79 + 2 * n ≡ start_of (customer_layout es b) k
    unfolding customer_layout layout_of start_of
    start_none = sym (no_starts (k - 16 - n)) ∙ ap (sum_over (width_at fields)) behind

    pub width_none : 0 ≡ (customer_layout es b).width k
    unfolding customer_layout layout_of
    width_none = sym (no_widths (k - 16 - n)) ∙ ap (width_at fields) behind

  -- every field has a byte, at most twelve, and a header of 159 bytes has room for it
  pub fits : (k : ℕ) → Fits (customer_layout es b) 12 customer_head_most k
  fits k = go (dec_lt k 12) (dec_lt k (12 + n)) (dec_lt k (16 + n))
    where
      go : Dec (k < 12) → Dec (k < 12 + n) → Dec (k < 16 + n) → Fits (customer_layout es b) 12 customer_head_most k
      go (yes l) h p =
          fits_by count_is (start_first k l) (width_first k l)
          (in_table k l).few (omega (arith, (in_table k l).room)) (λ z. omega arith) (λ z. omega (arith, (in_table k l).some))
      go (no m) (yes l) p =
          fits_by count_is (start_holiday k (omega arith) (omega arith)) (width_holiday k (omega arith) l)
          (omega arith) (omega arith) (λ z. omega arith) (λ z. omega arith)
      go (no m) (no h) (yes l) =
          fits_by count_is (start_price k (omega arith) (omega arith)) (width_price k (omega arith) l)
          (omega arith) (omega arith) (λ z. omega arith) (λ z. omega arith)
      go (no m) (no h) (no l) =
          fits_by count_is (start_none k (omega arith)) (width_none k (omega arith))
          (omega arith) (omega arith) (λ z. omega arith) (λ z. omega arith)

  -- the header's size
  pub size_is : head_size (customer_layout es b) ≡ 79 + 2 * n
  size_is =
      let last = start_price (16 + n) (omega arith) (omega arith) in
      ap (start_of (customer_layout es b)) count_is ∙ omega arith

-- the holidays by their bytes; holiday j counts from 0
module _ (b : List ℕ) where
  pub holiday_is : (j : ℕ) → j < holiday_count b → two_at b (holidays_at + 2 * j) ≡ get_or (holidays_of b) j 0
  holiday_is j l = sym (get_d_table (λ i. two_at b (holidays_at + 2 * i)) (holiday_count b) j 0 l)

  pub before_is : (j : ℕ) → (j ≡ 0 → ⊥) → j < holiday_count b → two_at b (holidays_at + 2 * (j - 1)) ≡ before (holidays_of b) j
  before_is zero z l = absurd (z refl)
  before_is (suc j) z l =
      let e : suc j - 1 ≡ j = omega arith in
      ap (λ (i : ℕ). two_at b (holidays_at + 2 * i)) e ∙ holiday_is j (omega arith)

-- the sheet, in a header that may end before it does
held_size : (n : ℕ) → min option_at n - min sheet_at n ≡ min sheet_size (n - sheet_at)
held_size n = omega arith

held_start : (n i : ℕ) → i < min option_at n - min sheet_at n → (min sheet_at n + i ≡ sheet_at + i) × (i < sheet_size)
held_start n i l = (omega arith, omega arith)

module _ (b : List ℕ) where
  abbrev held : ℕ
  held = length b

  abbrev from : ℕ
  from = min sheet_at held

  abbrev size : ℕ
  size = min option_at held - from

  held_long : length (take size (drop from b)) ≡ size
  held_long = length-take-le size (drop from b) (omega (arith, length-drop from b))

  pub sheet_held : take size (drop from b) ≡ sheet_part b
  sheet_held =
      ext_get_or 0 (take size (drop from b)) (sheet_part b)
      (held_long ∙ held_size held ∙ sym (length-take sheet_size (drop sheet_at b) ∙ ap (min sheet_size) (length-drop sheet_at b)))
      (λ i l.
      let h = held_start held i (omega (arith, held_long)) in
      get_or-take size (drop from b) i 0 (omega (arith, held_long))
      ∙ get_or-drop from b i 0
      ∙ ap (λ (j : ℕ). get_or b j 0) h.0
      ∙ sym (part_at b sheet_at sheet_size i h.1))
