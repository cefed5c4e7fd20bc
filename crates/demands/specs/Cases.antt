-- The cases with a star, 1 to 12: what the definitions compute by today's edition is what the case wants. All of them
-- are one list, `cases`, and one statement, `AllHold`. Rule 11.1.
use Rattle.std.specs.Prelude.{◌≡◌, Bool, true, false, List, [], ◌∷◌, ◌++◌, ℕ, ◌<◌, replicate}
use Rattle.answers.specs.Edition.{today}
use Rattle.answers.specs.Ruling.{day_quarters}
use Rattle.answers.specs.Said.{Said}
use Rattle.dates.specs.Dates.{day_of, weekday_of, saturday}
use Rattle.calendar.specs.Answer.{calendar_answer}
use Rattle.sheet.specs.Bytes.{sheet_bytes}
use Rattle.windows.specs.Chosen.{above_line, kept_of}
use Rattle.grid.specs.Answers.{sheet_of}
use Rattle.tariff.specs.declared.Row.{Row}
use Rattle.tariff.specs.declared.Prices.{Prices}
use Rattle.tariff.specs.declared.Rates.{Rates}
use Rattle.tariff.specs.declared.Figures.{Figures}
use Rattle.tariff.specs.Charges.{few_hours, row_of, general, reduced}
use Rattle.tariff.specs.Answers.{with_peaks, with_charge, peaks_of, charged_of}
use Rattle.tariff.specs.Decision.{judge_answer}

-- what the definitions compute, and what Rule 11.1 wants: an answer, a number, a row of prices, a yes or no, a season's
-- quarters, a sheet's bytes
pub data Case : Type 0 where
  answer : Said → Said → Case
  number : ℕ → ℕ → Case
  row : Row → Row → Case
  test : Bool → Bool → Case
  quarters : List Bool → List Bool → Case
  bytes : List ℕ → List ℕ → Case

-- a case holds where the two are the same
abbrev pub Holds : Case → Type 0
Holds (answer computed said) = computed ≡ said
Holds (number computed said) = computed ≡ said
Holds (row computed said) = computed ≡ said
Holds (test computed said) = computed ≡ said
Holds (quarters computed said) = computed ≡ said
Holds (bytes computed said) = computed ≡ said

-- every case of a list holds
abbrev pub Hold : List Case → Type 0
Hold [] = Unit {0}
Hold (c ∷ cs) = Holds c × Hold cs

-- a row of prices, capacity before energy; and the prices of Rule 11.1, with another high row where a case has one
abbrev pub priced : ℕ → ℕ → Row
priced capacity energy = record { capacity = capacity; energy = energy }

abbrev pub low_row : Row
low_row = priced 2000 4000

abbrev pub high_row : Row
high_row = priced 10000 800

abbrev pub with_high : Row → Prices
with_high high = record { few = low_row; many = high }

abbrev pub prices : Prices
prices = with_high high_row

-- weekdays count from 0, Monday; and the answer 0 with a day's kind, by its code from 1
abbrev pub thursday : ℕ
thursday = 3

abbrev pub kind : ℕ → Said
kind code = record { number = 0; figures = code ∷ [] }

-- the example of Rule 10.6: its four curves, 96 values each, one after the other, so that place 72, from 0, is quarter
-- 72 of season 1; and its sheet
abbrev pub example_curves : List ℕ
example_curves = replicate 72 1000 ++ (2000 ∷ replicate 311 1000)

abbrev pub example_sheet : List ℕ
example_sheet = (0x48 ∷ 0x4c ∷ 0x5a ∷ 0x00 ∷ 0x01 ∷ 0x07 ∷ 0xe9 ∷ 0x05 ∷ []) ++ (replicate 9 0x00 ++ (0x80 ∷ replicate 38 0x00))

-- what the cases leave open, so that they hold whatever it is: where H is first reached (day from 1, quarter from 0);
-- the charge year; the option, where hours of use are 2,500 and more; H and the level in case 4; the peak in case 10,
-- which is not zero
pub record Unsaid : Type 0 where
  pub day : ℕ
  pub quarter : ℕ
  pub charge_year : ℕ
  pub option : Bool
  pub high : ℕ
  pub level : ℕ
  pub peak : ℕ
  pub positive : 0 < peak

module _ (u : Unsaid) where
  -- a year whose M is m, H is h and S is s
  abbrev pub year : ℕ → ℕ → ℕ → Figures
  year m h s = record { peak = m; sum = s; any = true; high = h; day = u.day; quarter = u.quarter }

  -- the rates of a level, a price list and an option
  abbrev pub rates : ℕ → Prices → Bool → Rates
  rates level p option = record { year = u.charge_year; level = level; option = option; prices = p }

  -- a year f is answered 0 with g and c; or it is refused with number n and g
  abbrev pub charged : Figures → Rates → ℕ → ℕ → Case
  charged f r g c = answer (judge_answer today f r) (with_charge (charged_of f g c))

  abbrev pub refused : Figures → Rates → ℕ → ℕ → Case
  refused f r n g = answer (judge_answer today f r) (with_peaks n (peaks_of f g))

  abbrev pub cases : List Case
  cases =
      -- Case 1: g and c of M 1,000,000, H 800,000, S 12,000,000,000 at level 5
      charged (year 1000000 800000 12000000000) (rates 5 prices u.option) 12400000 10400000
      -- Case 2: one W more in the windows misses the share, 9
      ∷ refused (year 1000000 800001 12000000000) (rates 5 prices u.option) 9 12400000
      -- Case 3: with H 0, r is 2,400,000, below a fifth of g, so c is 2,480,000
      ∷ number (reduced today (year 1000000 0 12000000000) (rates 5 prices u.option)) 2400000
      ∷ charged (year 1000000 0 12000000000) (rates 5 prices u.option) 12400000 2480000
      -- Case 4: where S is 10,000 M, the high row, and g 12,000,000; where S is lower by 1, the low row. (Its g is the
      -- same to the cent, so the row is stated.)
      ∷ row (row_of prices (few_hours today (year 1000000 u.high 10000000000))) high_row
      ∷ number (general today (year 1000000 u.high 10000000000) (rates u.level prices u.option)) 12000000
      ∷ row (row_of prices (few_hours today (year 1000000 u.high 9999999999))) low_row
      -- Case 5: fewer than 2,500 hours of use, without the option and with it
      ∷ charged (year 1000000 100000 4000000000) (rates 5 prices false) 6000000 4200000
      ∷ charged (year 1000000 100000 4000000000) (rates 5 prices true) 6000000 1800000
      -- Case 6: the option makes r 8,800,000, more than g, so 11
      ∷ number (reduced today (year 1000000 800000 4000000000) (rates 5 prices true)) 8800000
      ∷ refused (year 1000000 800000 4000000000) (rates 5 prices true) 11 6000000
      -- Case 7: a reduction of 50,000 cent passes; with 499 for 500 it is 49,900, so 11
      ∷ charged (year 300000 200000 3600000000) (rates 1 (with_high (priced 500 800)) u.option) 870000 820000
      ∷ refused (year 300000 200000 3600000000) (rates 1 (with_high (priced 499 800)) u.option) 11 869700
      -- Case 8: a move of 99,999 W, so 10
      ∷ refused (year 300000 200001 3600000000) (rates 1 (with_high (priced 500 800)) u.option) 10 870000
      -- Case 9: 1,900 is on the line of the peak 2,000 and so not above it, 1,901 is above
      ∷ test (above_line today 2000 1900) false
      ∷ test (above_line today 2000 1901) true
      -- Case 10: a curve with the peak in every quarter keeps the first 40
      ∷ quarters (kept_of today u.peak (replicate day_quarters u.peak)) (replicate 40 true ++ replicate 56 false)
      -- Case 11: the weekdays of 2 March 2024 and of 1 May 2025; if 1 May is listed, it is a holiday (3), 2 May a
      -- bridge day (5) and 3 May on a weekend (2); so is Sunday 1 January 2017, listed or not
      ∷ number (weekday_of 2024 (day_of 2024 3 2)) saturday
      ∷ number (weekday_of 2025 (day_of 2025 5 1)) thursday
      ∷ answer (calendar_answer today 2025 (day_of 2025 5 1 ∷ []) (day_of 2025 5 1)) (kind 3)
      ∷ answer (calendar_answer today 2025 (day_of 2025 5 1 ∷ []) (day_of 2025 5 2)) (kind 5)
      ∷ answer (calendar_answer today 2025 (day_of 2025 5 1 ∷ []) (day_of 2025 5 3)) (kind 2)
      ∷ answer (calendar_answer today 2017 [] (day_of 2017 1 1)) (kind 2)
      ∷ answer (calendar_answer today 2017 (day_of 2017 1 1 ∷ []) (day_of 2017 1 1)) (kind 2)
      -- Case 12: the sheet of the example. Its four curves are 1,000, but 2,000 in season 1 at quarter 72.
      ∷ bytes (sheet_bytes (sheet_of today 2025 5 example_curves)) example_sheet
      ∷ []

-- whatever the cases leave open, every case of the list holds
abbrev pub AllHold : Type 0
AllHold = (u : Unsaid) → Hold (cases u)
