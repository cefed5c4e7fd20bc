-- The holiday list hs that an operator gives for year y, and when it is legal. Its entries are days of the year, from
-- 1; entry k counts from 0. Rule 2.6.
use Rattle.std.specs.Prelude.{Bool, ◌||◌, List, ℕ, zero, suc, ◌+◌, ◌≤◌, ◌<◌, leb, ltb, eqb, length, get_or}
use Rattle.ranges.specs.Ranges.{any_over}
use Rattle.answers.specs.Ruling.{holidays_most}
use Rattle.dates.specs.Dates.{year_days}

-- does the list have day d? The list alone says it.
unfoldable pub listed : List ℕ → ℕ → Bool
listed hs d = any_over (λ k. eqb (get_or hs k 0) d) (length hs)

-- the entry before entry k; 0 before the first, so that the first is tested as the others are
abbrev pub before : List ℕ → ℕ → ℕ
before hs zero = 0
before hs (suc k) = get_or hs k 0

-- a day that is no larger than the entry before it, `last`, or lies behind 31 December
abbrev pub bad_holiday : ℕ → ℕ → ℕ → Bool
bad_holiday y last day = leb day last || ltb (year_days y) day

-- the same of entry k of the list
abbrev pub bad_entry : ℕ → List ℕ → ℕ → Bool
bad_entry y hs k = bad_holiday y (before hs k) (get_or hs k 0)

-- answer 3: the list is not legal (Rule 2.6)
unfoldable pub bad_holidays : ℕ → List ℕ → Bool
bad_holidays y hs = ltb holidays_most (length hs) || any_over (bad_entry y hs) (length hs)

-- a legal list, stated by the orders ≤ and < alone
pub record LegalHolidays (y : ℕ) (hs : List ℕ) : Type 0 where
  pub few : length hs ≤ holidays_most
  pub from : (k : ℕ) → k < length hs → 1 ≤ get_or hs k 0
  pub to : (k : ℕ) → k < length hs → get_or hs k 0 ≤ year_days y
  pub rising : (k : ℕ) → k + 1 < length hs → get_or hs k 0 < get_or hs (k + 1) 0
