-- A customer file's header as it is read: no field looks at a byte behind it, and opening a year looks at the header
-- only.
-- Assumes nothing.
use mathlib.Core.Path.{◌≡◌, refl, sym, ap, ◌∙◌}
use mathlib.Core.Bool.{Bool}
use mathlib.Core.List.{List}
use Prim.Native.Nat.{ℕ, zero, suc, ◌+◌, ◌-◌, ◌*◌, ◌≤◌, ◌<◌, min}
use native.Mathlib.Decide.{dec_lt}
use native.Mathlib.Omega.{arith}
use borrow.Author.Tests.{lt-ltb}
use lib.Dec.{ltb, eqb}
use lib.ListN.{length, get_or}
use lib.Seq.{ext_get_or}
use Rattle.ranges.specs.Ranges.{number_if, table}
use Rattle.ranges.proofs.Tables.{table_cong}
use Rattle.answers.specs.declared.Edition.{Edition}
use Rattle.editions.specs.declared.Editions.{Editions}
use Rattle.editions.specs.Editions.{edition_of}
use Rattle.answers.specs.Ruling.{holidays_most, capacity_out, energy_out}
use Rattle.encoding.specs.Bytes.{two_at, four_at}
use Rattle.encoding.proofs.Bytes.{two_same, four_same}
use Rattle.holidays.specs.Holidays.{before, bad_holiday}
use Rattle.sheet.specs.Windows.{too_many}
use Rattle.sheet.specs.Bytes.{mark, year_at, sheet_size, season_bytes}
use Rattle.sheet.proofs.Bytes.{set_same}
use Rattle.terms.specs.Basis.{basis}
use Rattle.customer_days.specs.Days.{open_customer}
use Rattle.fields.specs.Layout.{Layout, field_at, start_of, head_size}
use Rattle.fields.proofs.Bytes.{part_long, part_at, Same}
use Rattle.fields.proofs.Header.{field_more, field_rises}
use Rattle.fields.proofs.Fed.{LooksBack}
use Rattle.fields.proofs.Common.{Own, one_same, mark_own, version_own, year_own, level_own}
use Rattle.customer_head.specs.Header.{customer_mark, sheet_at, option_at, sheet_part, option_of, holidays_at, holiday_count, holidays_of, prices_at, price_of, prices_in, holiday_out, season_field, option_field, count_field, capacity_field, energy_field, first_fields, price_fields, customer_layout, customer_year, customer_edition}
use Rattle.customer_opening.specs.Opening.{opened_in}
use Rattle.customer_head.proofs.CustomerLayout.{first_widths, first_starts, count_is, width_first, width_holiday, width_price, start_first, start_holiday, start_price, refusal_first, refusal_holiday, refusal_price, holiday_is, size_is}

-- the fields look at their own bytes, and a season's at the year's edition, too
season_own : (ed : Edition) → Own (season_field ed) season_bytes
unfolding season_field
season_own ed b c i h = ap (λ (n : ℕ). number_if (too_many ed n) 12) (set_same b c i i h)

option_own : Own option_field 1
unfolding option_field
option_own b c i h = ap (λ (x : ℕ). number_if (ltb 1 x) 12) (one_same b c i h)

count_own : Own count_field 1
unfolding count_field
count_own b c i h = ap (λ (x : ℕ). number_if (ltb holidays_most x) 3) (one_same b c i h)

capacity_own : Own capacity_field 4
unfolding capacity_field
capacity_own b c i h = ap (λ (x : ℕ). number_if (capacity_out x) 6) (four_same b c i i h)

energy_own : Own energy_field 4
unfolding energy_field
energy_own b c i h = ap (λ (x : ℕ). number_if (energy_out x) 6) (four_same b c i i h)

price_own : (j : ℕ) → j < 4 → Own (λ b. field_at (price_fields b) j) 4
price_own zero l = capacity_own
price_own (suc zero) l = energy_own
price_own (suc (suc zero)) l = capacity_own
price_own (suc (suc (suc zero))) l = energy_own
price_own (suc (suc (suc (suc j)))) l = absurd (omega arith)

-- a season's field: the same bytes, and the same year before them
season_same :
    (es : Editions) (b c : List ℕ) (i : ℕ)
    → ((j : ℕ) → j < season_bytes → get_or b (i + j) 0 ≡ get_or c (i + j) 0)
    → customer_year b ≡ customer_year c
    → (season_field (customer_edition es b) b).refused_at i ≡ (season_field (customer_edition es c) c).refused_at i
season_same es b c i h year =
    ap (λ (y : ℕ). (season_field (edition_of es y) b).refused_at i) year ∙ season_own (customer_edition es c) b c i h

first_same :
    (es : Editions) (k : ℕ)
    → k < 12
    → (b c : List ℕ) (i : ℕ)
    → ((j : ℕ) → j < get_or first_widths k 0 → get_or b (i + j) 0 ≡ get_or c (i + j) 0)
    → (6 ≤ k → customer_year b ≡ customer_year c)
    → (field_at (first_fields es b) k).refused_at i ≡ (field_at (first_fields es c) k).refused_at i
first_same es zero l b c i h y = mark_own customer_mark b c i h
first_same es (suc zero) l b c i h y = version_own b c i h
first_same es (suc (suc zero)) l b c i h y = mark_own mark b c i h
first_same es (suc (suc (suc zero))) l b c i h y = version_own b c i h
first_same es (suc (suc (suc (suc zero)))) l b c i h y = year_own es b c i h
first_same es (suc (suc (suc (suc (suc zero))))) l b c i h y = level_own b c i h
first_same es (suc (suc (suc (suc (suc (suc zero)))))) l b c i h y = season_same es b c i h (y (omega arith))
first_same es (suc (suc (suc (suc (suc (suc (suc zero))))))) l b c i h y = season_same es b c i h (y (omega arith))
first_same es (suc (suc (suc (suc (suc (suc (suc (suc zero)))))))) l b c i h y = season_same es b c i h (y (omega arith))
first_same es (suc (suc (suc (suc (suc (suc (suc (suc (suc zero))))))))) l b c i h y = season_same es b c i h (y (omega arith))
first_same es (suc (suc (suc (suc (suc (suc (suc (suc (suc (suc zero)))))))))) l b c i h y = option_own b c i h
first_same es (suc (suc (suc (suc (suc (suc (suc (suc (suc (suc (suc zero))))))))))) l b c i h y = count_own b c i h
first_same es (suc (suc (suc (suc (suc (suc (suc (suc (suc (suc (suc (suc k)))))))))))) l b c i h y = absurd (omega arith)

-- no field looks at a byte behind it
module _ (es : Editions) (bytes : List ℕ) where
  abbrev l : Layout
  l = customer_layout es bytes

  abbrev n : ℕ
  n = holiday_count bytes

  -- a field behind the count starts behind its byte
  behind : (k : ℕ) → 12 ≤ k → holidays_at ≤ start_of l k
  behind k m = omega (arith, field_rises l k 12 m, start_holiday es bytes 12 (omega arith) (omega arith))

  module _ (b : List ℕ) where
    few_same : Same holidays_at b bytes → holiday_count b ≡ n
    few_same h = ap (min holidays_most) (h 62 (omega arith))

    module _ (k : ℕ) where
      counts : Same (start_of l k) b bytes → ltb k (customer_layout es b).count ≡ ltb k l.count
      counts h = go (dec_lt k 12)
        where
          go : Dec (k < 12) → ltb k (customer_layout es b).count ≡ ltb k l.count
          go (yes m) = lt-ltb k (customer_layout es b).count (omega (arith, count_is es b)) ∙ sym (lt-ltb k l.count (omega (arith, count_is es bytes)))
          go (no m) =
              let e = few_same (λ i o. h i (omega (arith, behind k (omega arith)))) in
              ap (ltb k) (count_is es b ∙ ap (λ (j : ℕ). 16 + j) e ∙ sym (count_is es bytes))

      module _ (c : k < l.count) where
        widths : Same (start_of l k) b bytes → (customer_layout es b).width k ≡ l.width k
        widths h = go (dec_lt k 12) (dec_lt k (12 + n))
          where
            go : Dec (k < 12) → Dec (k < 12 + n) → (customer_layout es b).width k ≡ l.width k
            go (yes m) p = sym (width_first es b k m) ∙ width_first es bytes k m
            go (no m) (yes p) =
                let e = few_same (λ i o. h i (omega (arith, behind k (omega arith)))) in
                sym (width_holiday es b k (omega arith) (omega arith)) ∙ width_holiday es bytes k (omega arith) p
            go (no m) (no p) =
                let e = few_same (λ i o. h i (omega (arith, behind k (omega arith)))) in
                sym (width_price es b k (omega arith) (omega (arith, count_is es bytes)))
                ∙ width_price es bytes k (omega arith) (omega (arith, count_is es bytes))

  -- holidays
  module _ (b : List ℕ) (e : holiday_count b ≡ n) where
    entry_same : (j : ℕ) → j < n → Same (holidays_at + 2 * (j + 1)) b bytes → get_or (holidays_of b) j 0 ≡ get_or (holidays_of bytes) j 0
    entry_same j m h =
        sym (holiday_is b j (omega arith))
        ∙ two_same b bytes (holidays_at + 2 * j) (holidays_at + 2 * j) (λ i o. h (holidays_at + 2 * j + i) (omega arith))
        ∙ holiday_is bytes j m

    before_same : (j : ℕ) → j < n → Same (holidays_at + 2 * (j + 1)) b bytes → before (holidays_of b) j ≡ before (holidays_of bytes) j
    before_same zero m h = refl
    before_same (suc j) m h = entry_same j (omega arith) (λ i o. h i (omega arith))

    row_same : (j : ℕ) → j < n → Same (holidays_at + 2 * (j + 1)) b bytes → holiday_out b j ≡ holiday_out bytes j
    row_same j m h =
        let day = entry_same j m h in
        let last = before_same j m h in
        let year = two_same b bytes (sheet_at + year_at) (sheet_at + year_at) (λ i o. h (sheet_at + year_at + i) (omega arith)) in
        λ i. bad_holiday (year i) (last i) (day i)

  refusals : (k : ℕ) → k < l.count → (b : List ℕ) → Same (start_of l (k + 1)) b bytes → (customer_layout es b).refusal k ≡ l.refusal k
  refusals k c b h = go (dec_lt k 12) (dec_lt k (12 + n))
    where
      go : Dec (k < 12) → Dec (k < 12 + n) → (customer_layout es b).refusal k ≡ l.refusal k
      go (yes m) p =
          let s = start_first es bytes k m in
          let w = width_first es bytes k m in
          let more = field_more l k in
          let year : 6 ≤ k → customer_year b ≡ customer_year bytes =
          λ six. two_same b bytes (sheet_at + year_at) (sheet_at + year_at)
          (λ j o. h (sheet_at + year_at + j) (omega (arith, field_rises l (k + 1) 6 (omega arith), start_first es bytes 6 (omega arith)))) in
          sym (refusal_first es b k m)
          ∙ first_same es k m b bytes (get_or first_starts k 0) (λ j o. h (get_or first_starts k 0 + j) (omega arith)) year
          ∙ refusal_first es bytes k m
      go (no m) (yes p) =
          let e = few_same b (λ i o. h i (omega (arith, behind (k + 1) (omega arith)))) in
          let s = start_holiday es bytes k (omega arith) (omega arith) in
          let w = width_holiday es bytes k (omega arith) p in
          let more = field_more l k in
          sym (refusal_holiday es b k (omega arith) (omega arith))
          ∙ ap (λ (t : Bool). number_if t 3) (row_same b e (k - 12) (omega arith) (λ i o. h i (omega arith)))
          ∙ refusal_holiday es bytes k (omega arith) p
      go (no m) (no p) =
          let e = few_same b (λ i o. h i (omega (arith, behind (k + 1) (omega arith)))) in
          let q = count_is es bytes in
          let s = start_price es bytes k (omega arith) (omega arith) in
          let w = width_price es bytes k (omega arith) (omega arith) in
          let more = field_more l k in
          sym (refusal_price es b k (omega arith) (omega arith))
          ∙ ap (λ (j : ℕ). (field_at (price_fields b) (k - 12 - j)).refused_at (holidays_at + 2 * j + 4 * (k - 12 - j))) e
          ∙ price_own (k - 12 - n) (omega arith) b bytes
          (prices_at bytes + 4 * (k - 12 - n)) (λ j o. h (prices_at bytes + 4 * (k - 12 - n) + j) (omega arith))
          ∙ refusal_price es bytes k (omega arith) (omega arith)

  pub looks_back : LooksBack (customer_layout es) bytes
  looks_back = record { counts = λ k c b. counts b k; widths = λ k c b. widths b k c; refusals = refusals }

-- opening a year looks at the header only
abbrev size : Editions → List ℕ → ℕ
size es bytes = head_size (customer_layout es bytes)

module _ (es : Editions) (b bytes : List ℕ) (h : Same (size es bytes) b bytes) (f : size es bytes ≤ length b) (g : size es bytes ≤ length bytes) where
  within : (i : ℕ) → i < 79 + 2 * holiday_count bytes → get_or b i 0 ≡ get_or bytes i 0
  within i m = h i (omega (arith, size_is es bytes))

  few : holiday_count b ≡ holiday_count bytes
  few = few_same es bytes b (λ i m. within i (omega arith))

  sheet_same : sheet_part b ≡ sheet_part bytes
  sheet_same =
      let head = size_is es bytes in
      let here = part_long b sheet_at sheet_size (omega arith) in
      let there = part_long bytes sheet_at sheet_size (omega arith) in
      ext_get_or 0 (sheet_part b) (sheet_part bytes) (here ∙ sym there)
      (λ i m. part_at b sheet_at sheet_size i (omega arith) ∙ within (sheet_at + i) (omega arith) ∙ sym (part_at bytes sheet_at sheet_size i (omega arith)))

  holidays_same : holidays_of b ≡ holidays_of bytes
  holidays_same =
      ap (table (λ j. two_at b (holidays_at + 2 * j))) few
      ∙ table_cong _ _ (holiday_count bytes)
      (λ j m. two_same b bytes (holidays_at + 2 * j) (holidays_at + 2 * j) (λ i o. within (holidays_at + 2 * j + i) (omega arith)))

  price_same : (j : ℕ) → j < 4 → price_of b j ≡ price_of bytes j
  price_same j m =
      ap (λ (n : ℕ). four_at b (holidays_at + 2 * n + 4 * j)) few
      ∙ four_same b bytes (prices_at bytes + 4 * j) (prices_at bytes + 4 * j) (λ i o. within (prices_at bytes + 4 * j + i) (omega arith))

  prices_same : prices_in b ≡ prices_in bytes
  prices_same =
      λ i. record {
        few = record { capacity = price_same 0 (omega arith) i; energy = price_same 1 (omega arith) i };
        many = record { capacity = price_same 2 (omega arith) i; energy = price_same 3 (omega arith) i };
      }

  option_same : option_of b ≡ option_of bytes
  option_same = ap (λ (x : ℕ). eqb x 1) (within option_at (omega arith))

  pub opened_same : opened_in es b ≡ opened_in es bytes
  unfolding opened_in
  opened_same = λ i. open_customer (basis es (sheet_same i) (holidays_same i) (prices_same i) (option_same i))
