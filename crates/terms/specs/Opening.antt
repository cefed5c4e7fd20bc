-- What an opening of a customer's year on the basis k answers, and the terms that it hands over: all tests that need no
-- readings, in the order sheet (12, 1, 2, 12), holidays (3), prices (6). Rules 8.2, 9.3 and 9.5.
use Rattle.std.specs.Prelude.{◌≡◌, false, cond, List, ℕ, replicate, Result, Ok, Err}
use Rattle.answers.specs.Edition.{no_edition}
use Rattle.answers.specs.Said.{Said, only, after, or_else}
use Rattle.dates.specs.Dates.{most_days}
use Rattle.holidays.specs.Holidays.{bad_holidays}
use Rattle.day_kinds.specs.Kinds.{window_days}
use Rattle.sheet.specs.Windows.{window_places}
use Rattle.sheet.specs.Answers.{read_answer}
use Rattle.tariff.specs.declared.Row.{Row}
use Rattle.tariff.specs.declared.Prices.{Prices}
use Rattle.tariff.specs.declared.Rates.{Rates}
use Rattle.tariff.specs.Prices.{prices_out}
use Rattle.terms.specs.declared.Terms.{Terms}
use Rattle.terms.specs.declared.OpenRefusal.{OpenRefusal}
use Rattle.terms.specs.declared.OpenRefusal.TheVariants.{YearOut, LevelOut, BadHolidays, PriceOut, Malformed}
use Rattle.terms.specs.Basis.{Basis, basis_sheet, basis_year, basis_edition, basis_rates}

-- the holidays and the prices, for the year y: 3, then 6
abbrev pub lists_answer : ℕ → List ℕ → Prices → Said
lists_answer y hs p =
    cond (bad_holidays y hs) (only 3)
    (cond (prices_out p) (only 6)
    (only 0))

-- all that needs no readings: first the answer to reading the sheet, then that to the two lists
unfoldable pub customer_open_answer : Basis → Said
customer_open_answer k = or_else (read_answer (basis_edition k) k.sheet) (lists_answer (basis_year k) k.holidays k.prices)

-- what a year is judged under: its edition, its rates, the sheet's windows, and the days that carry windows, 1 January
-- at place 0
abbrev pub terms_of : Basis → Terms
terms_of k =
    record {
      edition = basis_edition k;
      rates = basis_rates k;
      windows = (basis_sheet k).windows;
      carrying = window_days (basis_year k) k.holidays;
    }

-- the fixed terms beside a refusal: the edition of no year, year and level 0, prices 0, no window and no day that
-- carries one (Rule 9.5)
abbrev pub no_row : Row
no_row = record { capacity = 0; energy = 0 }

abbrev pub no_rates : Rates
no_rates = record { year = 0; level = 0; option = false; prices = record { few = no_row; many = no_row } }

abbrev pub no_terms : Terms
no_terms =
    record {
      edition = no_edition;
      rates = no_rates;
      windows = replicate window_places false;
      carrying = replicate most_days false;
    }

-- the terms that an opening hands over: those of the basis beside 0, the fixed ones beside a refusal
unfoldable pub open_terms : Basis → Terms
open_terms k = after (customer_open_answer k) (terms_of k) no_terms

-- the number of each refusal of the code, and what opening hands back says, and the terms beside it
abbrev pub said_of_open_refusal : OpenRefusal → Said
said_of_open_refusal YearOut = only 1
said_of_open_refusal LevelOut = only 2
said_of_open_refusal BadHolidays = only 3
said_of_open_refusal PriceOut = only 6
said_of_open_refusal Malformed = only 12

abbrev pub said_of_opening : Result Terms OpenRefusal → Said
said_of_opening (Ok terms) = only 0
said_of_opening (Err refusal) = said_of_open_refusal refusal

abbrev pub terms_beside : Result Terms OpenRefusal → Terms
terms_beside (Ok terms) = terms
terms_beside (Err refusal) = no_terms

-- what is promised of opening: its answer, and the terms beside it
pub record Opens (k : Basis) (r : Result Terms OpenRefusal) : Type 0 where
  pub said : said_of_opening r ≡ customer_open_answer k
  pub terms : terms_beside r ≡ open_terms k
