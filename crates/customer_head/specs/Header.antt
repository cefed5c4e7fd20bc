-- The header of a customer file, by the file's bytes b: mark, version, a window sheet, the option, the number of
-- holidays, the holidays, four prices; es is the list of editions. Fields, places, holidays j and prices j count from
-- 0. Rules 10.3 and 10.4.
use Rattle.std.specs.Prelude.{Bool, List, [], ◌∷◌, ◌++◌, ℕ, ◌+◌, ◌*◌, min, ltb, eqb, get_or}
use Rattle.ranges.specs.Ranges.{number_if, table}
use Rattle.answers.specs.declared.Edition.{Edition}
use Rattle.answers.specs.Ruling.{holidays_most, capacity_out, energy_out}
use Rattle.editions.specs.declared.Editions.{Editions}
use Rattle.editions.specs.Editions.{edition_of}
use Rattle.holidays.specs.Holidays.{bad_entry}
use Rattle.encoding.specs.Bytes.{ascii, two_at, four_at, mark_size, version_size}
use Rattle.sheet.specs.Bytes.{mark, year_at, sheet_size, season_bytes, season_full}
use Rattle.tariff.specs.declared.Prices.{Prices}
use Rattle.fields.specs.Layout.{Field, Layout, layout_of}
use Rattle.fields.specs.File.{part}
use Rattle.fields.specs.Common.{mark_field, version_field, year_field, level_field}

-- the mark
abbrev pub customer_mark : List ℕ
customer_mark = ascii "CUS"

-- the places of the sheet, the option, the number of holidays, and the holidays
abbrev pub sheet_at : ℕ
sheet_at = mark_size + version_size

abbrev pub option_at : ℕ
option_at = sheet_at + sheet_size

abbrev pub count_at : ℕ
count_at = option_at + 1

abbrev pub holidays_at : ℕ
holidays_at = count_at + 1

-- a header has at most so many bytes: with forty holidays
abbrev pub customer_head_most : ℕ
customer_head_most = 159

-- the bytes of the sheet, its year, and whether the customer has the option
abbrev pub sheet_part : List ℕ → List ℕ
sheet_part b = part b sheet_at sheet_size

abbrev pub customer_year : List ℕ → ℕ
customer_year b = two_at b (sheet_at + year_at)

abbrev pub option_of : List ℕ → Bool
option_of b = eqb (get_or b option_at 0) 1

-- how many holidays there are (a number above 40 is refused itself, and never more than 40 are read), and the holidays,
-- days of the year from 1
abbrev pub holiday_count : List ℕ → ℕ
holiday_count b = min holidays_most (get_or b count_at 0)

abbrev pub holidays_of : List ℕ → List ℕ
holidays_of b = table (λ j. two_at b (holidays_at + 2 * j)) (holiday_count b)

-- the prices, four bytes each: the low row's for capacity, the low row's for energy, then both of the high row (Rule
-- 10.3)
abbrev pub prices_at : List ℕ → ℕ
prices_at b = holidays_at + 2 * holiday_count b

abbrev pub price_of : List ℕ → ℕ → ℕ
price_of b j = four_at b (prices_at b + 4 * j)

abbrev pub prices_in : List ℕ → Prices
prices_in b =
    record {
      few = record { capacity = price_of b 0; energy = price_of b 1 };
      many = record { capacity = price_of b 2; energy = price_of b 3 };
    }

-- the edition of the year, in the list es
abbrev pub customer_edition : Editions → List ℕ → Edition
customer_edition es b = edition_of es (customer_year b)

-- a season of the sheet, 12 bytes: more set bits than the limit of the year's edition are 12
unfoldable pub season_field : Edition → List ℕ → Field
season_field ed b = record { width = season_bytes; refused_at = λ i. number_if (season_full ed b i) 12 }

-- the option, one byte: above 1 it is 12. The number of holidays, one byte: above 40 it is 3. Holiday j, two bytes: 3
-- where it breaks Rule 2.6.
unfoldable pub option_field : List ℕ → Field
option_field b = record { width = 1; refused_at = λ i. number_if (ltb 1 (get_or b i 0)) 12 }

unfoldable pub count_field : List ℕ → Field
count_field b = record { width = 1; refused_at = λ i. number_if (ltb holidays_most (get_or b i 0)) 3 }

abbrev pub holiday_out : List ℕ → ℕ → Bool
holiday_out b j = bad_entry (customer_year b) (holidays_of b) j

unfoldable pub holiday_field : List ℕ → ℕ → Field
holiday_field b j = record { width = 2; refused_at = λ i. number_if (holiday_out b j) 3 }

-- a capacity price and an energy price, four bytes each: above its limit it is 6
unfoldable pub capacity_field : List ℕ → Field
capacity_field b = record { width = 4; refused_at = λ i. number_if (capacity_out (four_at b i)) 6 }

unfoldable pub energy_field : List ℕ → Field
energy_field b = record { width = 4; refused_at = λ i. number_if (energy_out (four_at b i)) 6 }

-- the fields of the header, in order: twelve first ones (mark and version, the sheet's eight, option, number of
-- holidays), then the holidays, then the four prices
abbrev pub first_fields : Editions → List ℕ → List Field
first_fields es b =
    mark_field customer_mark b
    ∷ version_field b
    ∷ mark_field mark b
    ∷ version_field b
    ∷ year_field es b
    ∷ level_field b
    ∷ season_field (customer_edition es b) b
    ∷ season_field (customer_edition es b) b
    ∷ season_field (customer_edition es b) b
    ∷ season_field (customer_edition es b) b
    ∷ option_field b
    ∷ count_field b
    ∷ []

abbrev pub price_fields : List ℕ → List Field
price_fields b = capacity_field b ∷ energy_field b ∷ capacity_field b ∷ energy_field b ∷ []

abbrev pub customer_fields : Editions → List ℕ → List Field
customer_fields es b = first_fields es b ++ (table (holiday_field b) (holiday_count b) ++ price_fields b)

unfoldable pub customer_layout : Editions → List ℕ → Layout
customer_layout es b = layout_of (customer_fields es b)
