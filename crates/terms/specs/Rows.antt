-- When each number of an opening is given: its row of the table of answers holds, and no row that is tested before it.
-- Said without the tests of specs/Opening, and proved to be the same. Rules 8.1 and 8.2.
use Rattle.std.specs.Prelude.{◌≡◌, ℕ}
use Rattle.holidays.specs.Holidays.{LegalHolidays}
use Rattle.sheet.specs.Rows.{ReadRow}
use Rattle.tariff.specs.Prices.{LegalPrices}
use Rattle.terms.specs.Basis.{Basis, basis_year, basis_edition}

-- a basis that is opened: its sheet is read, and its lists are legal
pub record LegalBasis (k : Basis) : Type 0 where
  pub read : ReadRow (basis_edition k) k.sheet 0
  pub holidays : LegalHolidays (basis_year k) k.holidays
  pub prices : LegalPrices k.prices

-- what the sheet is refused for (12, 1, 2, 12), then 3, then 6, else 0
pub data CustomerOpenRow (k : Basis) : ℕ → Type 0 where
  sheet : {n : ℕ} → ReadRow (basis_edition k) k.sheet n → (n ≡ 0 → ⊥) → CustomerOpenRow k n
  three : ReadRow (basis_edition k) k.sheet 0 → (LegalHolidays (basis_year k) k.holidays → ⊥) → CustomerOpenRow k 3
  six : ReadRow (basis_edition k) k.sheet 0 → LegalHolidays (basis_year k) k.holidays → (LegalPrices k.prices → ⊥) → CustomerOpenRow k 6
  zero : LegalBasis k → CustomerOpenRow k 0
