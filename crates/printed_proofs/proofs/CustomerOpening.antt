-- What a customer file's fields say of the year that its header opens: each field of the sheet, each holiday and each
-- price is refused by the test that the opening makes of it. So a file whose fields all pass opens a year.
-- Assumes nothing.
use mathlib.Core.Path.{◌≡◌, refl, sym, ap, ◌∙◌}
use mathlib.Core.Bool.{Bool, false}
use mathlib.Core.List.{List, [], ◌∷◌}
use Prim.Native.Nat.{ℕ, zero, suc, ◌+◌, ◌*◌, ◌≤◌, ◌<◌}
use native.Mathlib.Omega.{arith}
use borrow.Author.Tests.{eqb-true, not-false}
use lib.ListN.{length, get_or}
use Rattle.ranges.specs.Ranges.{number_if}
use Rattle.ranges.proofs.Tables.{length_table}
use Rattle.ranges.proofs.Tests.{any_fails, Passed}
use Rattle.answers.specs.declared.Edition.{Edition}
use Rattle.editions.specs.declared.Editions.{Editions}
use Rattle.editions.specs.Editions.{edition_of}
use Rattle.answers.specs.Ruling.{lacks_year, level_out, capacity_out, energy_out}
use Rattle.answers.specs.Said.{only}
use Rattle.encoding.specs.Bytes.{two_at, version_out}
use Rattle.encoding.proofs.Bytes.{two_same, other_mark_same}
use Rattle.holidays.specs.Holidays.{bad_entry, bad_holidays}
use Rattle.holidays.proofs.Lists.{bad_none}
use Rattle.sheet.specs.Rows.{Formed}
use Rattle.sheet.specs.Windows.{seasons, set_in, too_many, too_full}
use Rattle.sheet.specs.Bytes.{mark, version_at, year_at, level_at, windows_at, sheet_size, windows_in, sheet_in, unmarked, season_bytes, set_from}
use Rattle.sheet.specs.Answers.{read_answer}
use Rattle.sheet.proofs.Bytes.{season_set, set_same}
use Rattle.sheet.proofs.Answered.{marked, read_accepted}
use Rattle.tariff.specs.Prices.{row_out, prices_out}
use Rattle.terms.specs.Basis.{basis_edition}
use Rattle.terms.specs.Opening.{customer_open_answer}
use Rattle.terms.proofs.Answered.{open_done}
use Rattle.fields.specs.Layout.{Layout, field_at, head_size, stops}
use Rattle.fields.proofs.Bytes.{part_long, part_at}
use Rattle.fields.proofs.Common.{mark_no, version_no, year_no, level_no, unrefused}
use Rattle.fields.proofs.Header.{field_held, fields_held}
use Rattle.customer_head.specs.Header.{sheet_at, sheet_part, customer_year, holidays_at, holiday_count, holidays_of, prices_at, price_of, prices_in, price_fields, customer_layout, customer_edition}
use Rattle.customer_opening.specs.Opening.{basis_in}
use Rattle.customer_head.proofs.CustomerLayout.{count_few, count_is, refusal_first, season_refused, holiday_refused, price_refused, size_is}
use Rattle.customer_head.proofs.Refusals.{season_no, capacity_no, energy_no}

module _ (es : Editions) (bytes : List ℕ) where
  abbrev l : Layout
  l = customer_layout es bytes

  abbrev n : ℕ
  n = holiday_count bytes

  abbrev sheet : List ℕ
  sheet = sheet_part bytes

  abbrev hs : List ℕ
  hs = holidays_of bytes

  -- the bytes of the sheet: byte k of what starts at its byte i, both from 0
  byte : (i k : ℕ) → i + k < sheet_size → get_or sheet (i + k) 0 ≡ get_or bytes (sheet_at + i + k) 0
  byte i k m =
      let e : sheet_at + (i + k) ≡ sheet_at + i + k = omega arith in
      part_at bytes sheet_at sheet_size (i + k) m ∙ ap (λ (j : ℕ). get_or bytes j 0) e

  two : (i : ℕ) → i + 2 ≤ sheet_size → two_at sheet i ≡ two_at bytes (sheet_at + i)
  two i m = two_same sheet bytes i (sheet_at + i) (λ k o. byte i k (omega arith))

  pub year_is : (sheet_in sheet).year ≡ customer_year bytes
  year_is = two year_at (omega arith)

  -- the edition by which the sheet is read is the one of the year that the header has
  abbrev ed : Edition
  ed = basis_edition (basis_in es bytes)

  edition_is : ed ≡ customer_edition es bytes
  edition_is = ap (edition_of es) year_is

  season_is : (j : ℕ) → j < seasons → set_in (windows_in sheet) (j + 1) ≡ set_from bytes (13 + 12 * j)
  season_is j m =
      let i = windows_at + season_bytes * j in
      season_set sheet j m ∙ set_same sheet bytes i (sheet_at + i) (λ k o. byte i k (omega arith)) ∙ ap (set_from bytes) (omega arith)

  -- the number of each field, by the test that the opening makes: the sheet
  pub mark_tested : number_if (unmarked sheet) 12 ≡ l.refusal 2
  mark_tested = mark_no bytes sheet_at mark (other_mark_same sheet bytes 0 sheet_at mark (λ k o. byte 0 k (omega arith)))
      ∙ refusal_first es bytes 2 (omega arith)

  pub version_tested : number_if (version_out sheet version_at) 12 ≡ l.refusal 3
  version_tested = version_no bytes 8 (two version_at (omega arith)) ∙ refusal_first es bytes 3 (omega arith)

  pub year_tested : number_if (lacks_year ed (two_at sheet year_at)) 1 ≡ l.refusal 4
  year_tested = year_no bytes 10 es year_is refl ∙ refusal_first es bytes 4 (omega arith)

  pub level_tested : number_if (level_out (get_or sheet level_at 0)) 2 ≡ l.refusal 5
  level_tested = level_no bytes 12 (ap level_out (byte level_at 0 (omega arith))) ∙ refusal_first es bytes 5 (omega arith)

  pub season_tested : (j : ℕ) → j < seasons → number_if (too_many ed (set_in (windows_in sheet) (j + 1))) 12 ≡ l.refusal (6 + j)
  season_tested j m = season_no bytes (13 + 12 * j) (customer_edition es bytes) (λ i. too_many (edition_is i) (season_is j m i)) ∙ season_refused es bytes j m

  -- the holidays
  pub holiday_tested : (j : ℕ) → j < n → number_if (bad_entry (sheet_in sheet).year hs j) 3 ≡ l.refusal (12 + j)
  holiday_tested j m = ap (λ (y : ℕ). number_if (bad_entry y hs j) 3) year_is ∙ holiday_refused es bytes j m

  pub holidays_long : length hs ≡ n
  holidays_long = length_table (λ j. two_at bytes (holidays_at + 2 * j)) n

  -- the prices, each with its limit
  abbrev pub price_out : ℕ → Bool
  price_out j = get_or (capacity_out (price_of bytes 0) ∷ energy_out (price_of bytes 1) ∷ capacity_out (price_of bytes 2) ∷ energy_out
      (price_of bytes 3) ∷ []) j false

  pub price_tested : (j : ℕ) → j < 4 → number_if (price_out j) 6 ≡ l.refusal (12 + (n + j))
  price_tested j m = go j m ∙ price_refused es bytes j m
    where
      go : (j : ℕ) → j < 4 → number_if (price_out j) 6 ≡ (field_at (price_fields bytes) j).refused_at (prices_at bytes + 4 * j)
      go zero m = capacity_no bytes (prices_at bytes + 4 * 0) 0 m refl refl
      go (suc zero) m = energy_no bytes (prices_at bytes + 4 * 1) 1 m (omega arith) refl
      go (suc (suc zero)) m = capacity_no bytes (prices_at bytes + 4 * 2) 2 m refl refl
      go (suc (suc (suc zero))) m = energy_no bytes (prices_at bytes + 4 * 3) 3 m (omega arith) refl
      go (suc (suc (suc (suc j)))) m = absurd (omega arith)

  -- the first m fields pass: what the opening tests of them passes, too
  module _ (m : ℕ) (passed : (k : ℕ) → k < m → l.refusal k ≡ 0) where
    pub formed : head_size l ≤ length bytes → 4 ≤ m → Formed sheet
    formed whole o =
        record {
          size = part_long bytes sheet_at sheet_size (omega (arith, size_is es bytes));
          marked = (marked sheet).0 (unrefused _ 11 (mark_tested ∙ passed 2 (omega arith)));
          version = eqb-true _ _ (not-false _ (unrefused _ 11 (version_tested ∙ passed 3 (omega arith))));
        }

    pub year_in : 5 ≤ m → lacks_year ed (two_at sheet year_at) ≡ false
    year_in o = unrefused _ 0 (year_tested ∙ passed 4 (omega arith))

    pub level_in : 6 ≤ m → level_out (get_or sheet level_at 0) ≡ false
    level_in o = unrefused _ 1 (level_tested ∙ passed 5 (omega arith))

    roomy : 10 ≤ m → too_full ed (windows_in sheet) ≡ false
    unfolding too_full
    roomy o =
        any_fails (λ k. too_many ed (set_in (windows_in sheet) (k + 1))) seasons
        (λ j a. unrefused _ 11 (season_tested j a ∙ passed (6 + j) (omega arith)))

    pub sheet_in_law : head_size l ≤ length bytes → 10 ≤ m → only 0 ≡ read_answer ed sheet
    sheet_in_law whole o = read_accepted ed sheet (formed whole (omega arith)) (year_in (omega arith)) (level_in (omega arith)) (roomy o)

    pub holidays_in : 12 + n ≤ m → bad_holidays (sheet_in sheet).year hs ≡ false
    holidays_in o =
        let fits : Passed (bad_entry (sheet_in sheet).year hs) n =
        record { fails = λ j a. unrefused _ 2 (holiday_tested j a ∙ passed (12 + j) (omega arith)) } in
        sym (bad_none (sheet_in sheet).year hs fits (omega (arith, holidays_long, count_few es bytes)) (omega (arith, holidays_long)))

    price_in : 16 + n ≤ m → (j : ℕ) → j < 4 → price_out j ≡ false
    price_in o j a = unrefused _ 5 (price_tested j a ∙ passed (12 + (n + j)) (omega arith))

    prices_in_law : 16 + n ≤ m → prices_out (prices_in bytes) ≡ false
    unfolding prices_out row_out
    prices_in_law o = rw (price_in o 0 (omega arith), price_in o 1 (omega arith), price_in o 2 (omega arith), price_in o 3 (omega arith))

  -- a file whose fields all pass
  pub opens : Passed (stops l bytes) l.count → customer_open_answer (basis_in es bytes) ≡ only 0
  opens p =
      let passed : (k : ℕ) → k < l.count → l.refusal k ≡ 0 = λ k m. (field_held l bytes k (p.fails k m)).1 in
      let all = count_is es bytes in
      sym (open_done (basis_in es bytes)
      (sheet_in_law l.count passed (fields_held l bytes l.count p) (omega arith))
      (holidays_in l.count passed (omega arith))
      (prices_in_law l.count passed (omega arith)))
