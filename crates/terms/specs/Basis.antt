-- What a customer's year is decided on, as one argument: the list of editions, the sheet, the holidays, the prices and
-- the option, which the third demand keeps the same for two years (Rule 12.3). A definition that only hands it on does
-- not look inside.
use Rattle.std.specs.Prelude.{Bool, List, ℕ}
use Rattle.answers.specs.declared.Edition.{Edition}
use Rattle.editions.specs.declared.Editions.{Editions}
use Rattle.sheet.specs.declared.Sheet.{Sheet}
use Rattle.sheet.specs.Bytes.{sheet_in}
use Rattle.sheet_read.specs.Editions.{sheet_edition}
use Rattle.tariff.specs.declared.Prices.{Prices}
use Rattle.tariff.specs.declared.Rates.{Rates}

-- the list of editions, the sheet by its bytes, the holiday list (a day counts from 1), the prices, the customer's
-- option
pub record Basis : Type 0 where
  pub editions : Editions
  pub sheet : List ℕ
  pub holidays : List ℕ
  pub prices : Prices
  pub option : Bool

abbrev pub basis : Editions → List ℕ → List ℕ → Prices → Bool → Basis
basis es b hs p option = record { editions = es; sheet = b; holidays = hs; prices = p; option = option }

-- what the sheet says, and the year that it is for
abbrev pub basis_sheet : Basis → Sheet
basis_sheet k = sheet_in k.sheet

abbrev pub basis_year : Basis → ℕ
basis_year k = (basis_sheet k).year

-- the edition of that year, by which the sheet is read and the year judged
abbrev pub basis_edition : Basis → Edition
basis_edition k = sheet_edition k.editions k.sheet

-- what a year's figures are judged by beside it
abbrev pub basis_rates : Basis → Rates
basis_rates k = record { year = basis_year k; level = (basis_sheet k).level; option = k.option; prices = k.prices }
