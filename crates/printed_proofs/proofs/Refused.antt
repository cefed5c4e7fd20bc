-- Nothing is decided twice: where a field is refused, the opening would refuse the same bytes with the same number. The
-- opening does not see the fields that are the file's own: its mark and version, the option byte, the count of the
-- holidays. (A count above 40 is 3, as a list of more than 40 is to the opening: by definition one limit and one
-- number.)
-- Assumes nothing.
use mathlib.Core.Path.{◌≡◌, refl, sym, ap}
use mathlib.Core.Bool.{true, not, or-true}
use mathlib.Core.List.{List}
use Prim.Native.Nat.{ℕ, zero, suc, ◌+◌, ◌-◌, ◌≤◌, ◌<◌}
use native.Mathlib.Decide.{dec_lt}
use native.Mathlib.Omega.{arith}
use borrow.Author.Tests.{eq-eqb, ne_eqb}
use lib.ListN.{length}
use Rattle.ranges.proofs.Bools.{clash}
use Rattle.answers.specs.declared.Edition.{Edition}
use Rattle.editions.specs.declared.Editions.{Editions}
use Rattle.editions.specs.Editions.{edition_of}
use Rattle.answers.specs.Said.{Said, only}
use Rattle.holidays.proofs.Lists.{bad_at_law}
use Rattle.sheet.specs.Windows.{seasons}
use Rattle.sheet.specs.Bytes.{windows_in, sheet_in}
use Rattle.sheet.specs.Answers.{read_answer}
use Rattle.sheet.proofs.Windows.{full_season}
use Rattle.sheet.proofs.Answered.{marked, read_form, read_year, read_level, read_full}
use Rattle.tariff.specs.declared.Prices.{Prices}
use Rattle.tariff.specs.Prices.{row_out, prices_out}
use Rattle.terms.specs.Basis.{basis_edition}
use Rattle.terms.specs.Opening.{customer_open_answer}
use Rattle.terms.proofs.Answered.{open_read, open_holidays, open_prices}
use Rattle.grid.specs.Answers.{grid_open_answer}
use Rattle.grid.proofs.Answered.{open_year, open_level}
use Rattle.fields.specs.Layout.{Layout, head_size}
use Rattle.fields.proofs.Common.{refused_as}
use Rattle.grid_head.specs.Header.{grid_layout, grid_year, grid_level}
use Rattle.grid_head.proofs.GridLayout.{grid_count}
use Rattle.customer_head.specs.Header.{sheet_part, holiday_count, holidays_of, prices_in, customer_layout}
use Rattle.customer_opening.specs.Opening.{basis_in}
use Rattle.customer_head.proofs.CustomerLayout.{count_is}
use Rattle.printed_proofs.proofs.Grid as GridFields
use Rattle.printed_proofs.proofs.CustomerOpening.{mark_tested, version_tested, year_tested, level_tested, season_tested, holiday_tested, holidays_long, price_out, price_tested, formed, year_in, level_in, sheet_in_law, holidays_in}

-- field k of a header, from 0, is the first that is refused
pub record FirstRefused (l : Layout) (k : ℕ) : Type 0 where
  pub field : k < l.count
  pub before : (i : ℕ) → i < k → l.refusal i ≡ 0
  pub refused : l.refusal k ≡ 0 → ⊥

-- where field k is refused, first of its header, the opening answers the field's number
abbrev pub DecidedOnce : Said → Layout → ℕ → Type 0
DecidedOnce opening l k = FirstRefused l k → opening ≡ only (l.refusal k)

-- a grid file: year and level, fields 2 and 3
pub grid_once :
    (es : Editions) (bytes : List ℕ) (k : ℕ)
    → 2 ≤ k
    → DecidedOnce (grid_open_answer (edition_of es (grid_year bytes)) (grid_year bytes) (grid_level bytes)) (grid_layout es bytes) k
grid_once es bytes zero m r = absurd (omega arith)
grid_once es bytes (suc zero) m r = absurd (omega arith)
grid_once es bytes (suc (suc zero)) m r = refused_as _ 0 (GridFields.year_tested es bytes) r.refused (open_year _ _ _)
grid_once es bytes (suc (suc (suc zero))) m r =
    refused_as _ 1 (GridFields.level_tested es bytes) r.refused (open_level _ _ _ (GridFields.year_legal es bytes (r.before 2 (omega arith))))
grid_once es bytes (suc (suc (suc (suc k)))) m r = absurd (omega (arith, r.field, grid_count es bytes))

-- the fields of a customer file that the opening sees: 2 to 9 are the sheet's, from 12 on the holidays and the prices
pub data Seen (k : ℕ) : Type 0 where
  sheet : 2 ≤ k → k < 10 → Seen k
  lists : 12 ≤ k → Seen k

module _ (es : Editions) (bytes : List ℕ) where
  abbrev l : Layout
  l = customer_layout es bytes

  abbrev n : ℕ
  n = holiday_count bytes

  abbrev ed : Edition
  ed = basis_edition (basis_in es bytes)

  abbrev b : List ℕ
  b = sheet_part bytes

  abbrev hs : List ℕ
  hs = holidays_of bytes

  abbrev p : Prices
  p = prices_in bytes

  abbrev Once : ℕ → Type 0
  Once k = DecidedOnce (customer_open_answer (basis_in es bytes)) l k

  -- a field by its place in its row
  placed : {i k : ℕ} → i ≡ k → Once i → Once k
  placed e h = rw e at h

  module _ (whole : head_size l ≤ length bytes) where
    -- the sheet
    read_once : {c : ℕ} → only (suc c) ≡ read_answer ed b → only (suc c) ≡ customer_open_answer (basis_in es bytes)
    read_once {c} e = open_read (basis_in es bytes) (only (suc c)) (ne_eqb (suc c) 0 (omega arith)) e

    season_once : (j : ℕ) → j < seasons → Once (6 + j)
    season_once j m r =
        let form = formed es bytes (6 + j) r.before whole (omega arith) in
        let year = year_in es bytes (6 + j) r.before (omega arith) in
        let level = level_in es bytes (6 + j) r.before (omega arith) in
        refused_as _ 11 (season_tested es bytes j m) r.refused (λ t. read_once (read_full ed b form year level (full_season ed (windows_in b) j m t)))

    sheet_once : (k : ℕ) → 2 ≤ k → k < 10 → Once k
    sheet_once zero f g r = absurd (omega arith)
    sheet_once (suc zero) f g r = absurd (omega arith)
    sheet_once (suc (suc zero)) f g r =
        refused_as _ 11 (mark_tested es bytes) r.refused (λ t. read_once (read_form ed b (λ a. clash t ((marked b).1 a.marked))))
    sheet_once (suc (suc (suc zero))) f g r =
        refused_as _ 11 (version_tested es bytes) r.refused (λ t. read_once (read_form ed b (λ a. clash t (ap not (eq-eqb _ _ a.version)))))
    sheet_once (suc (suc (suc (suc zero)))) f g r =
        refused_as _ 0 (year_tested es bytes) r.refused (λ t. read_once (read_year ed b (formed es bytes 4 r.before whole (omega arith)) t))
    sheet_once (suc (suc (suc (suc (suc zero))))) f g r =
        let form = formed es bytes 5 r.before whole (omega arith) in
        let year = year_in es bytes 5 r.before (omega arith) in
        refused_as _ 1 (level_tested es bytes) r.refused (λ t. read_once (read_level ed b form year t))
    sheet_once (suc (suc (suc (suc (suc (suc j)))))) f g r = placed (omega arith) (season_once j (omega arith)) r

    -- the holidays
    holiday_once : (j : ℕ) → j < n → Once (12 + j)
    holiday_once j m r =
        let read = sheet_in_law es bytes (12 + j) r.before whole (omega arith) in
        refused_as _ 2 (holiday_tested es bytes j m) r.refused
        (λ t. open_holidays (basis_in es bytes) read (sym (bad_at_law (sheet_in b).year hs j t (omega (arith, holidays_long es bytes)))))

    -- the prices
    prices_out_law : (j : ℕ) → price_out es bytes j ≡ true → prices_out p ≡ true
    unfolding prices_out row_out
    prices_out_law zero t = rw t
    prices_out_law (suc zero) t = rw (t, or-true (price_out es bytes 0))
    prices_out_law (suc (suc zero)) t = rw (t, or-true (row_out p.few))
    prices_out_law (suc (suc (suc zero))) t = rw (t, or-true (price_out es bytes 2), or-true (row_out p.few))
    prices_out_law (suc (suc (suc (suc j)))) t = absurd (clash t refl)

    price_once : (j : ℕ) → j < 4 → Once (12 + (n + j))
    price_once j m r =
        let read = sheet_in_law es bytes (12 + (n + j)) r.before whole (omega arith) in
        let list = holidays_in es bytes (12 + (n + j)) r.before (omega arith) in
        refused_as _ 5 (price_tested es bytes j m) r.refused (λ t. open_prices (basis_in es bytes) read list (prices_out_law j t))

    -- a customer file whose header is whole
    pub customer_once : (k : ℕ) → Seen k → DecidedOnce (customer_open_answer (basis_in es bytes)) l k
    customer_once k (sheet f g) r = sheet_once k f g r
    customer_once k (lists f) r = go (dec_lt k (12 + n))
      where
        go : Dec (k < 12 + n) → customer_open_answer (basis_in es bytes) ≡ only (l.refusal k)
        go (yes m) = placed (omega arith) (holiday_once (k - 12) (omega arith)) r
        go (no m) = placed (omega arith) (price_once (k - 12 - n) (omega (arith, r.field, count_is es bytes))) r
