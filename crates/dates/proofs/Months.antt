-- The table of the days before each month says what the months add up to: a year enters only through its leap
-- day, so two computed tests cover every year. A day's month is the first that does not end before it, and the
-- days that are left of it lie in it.
-- Assumes nothing.
use mathlib.Core.Path.{◌≡◌, refl, sym, ap, ◌∙◌}
use mathlib.Core.Bool.{Bool, true, cond, ◌||◌}
use mathlib.Core.List.{List, [], ◌∷◌}
use Prim.Native.Nat.{ℕ, ◌+◌, ◌-◌, ◌≤◌, ◌<◌}
use native.Mathlib.Decide.{dec_lt}
use native.Mathlib.Omega.{arith}
use borrow.Author.Tests.{lt-ltb, le-ltb, ltb-true, eqb-true}
use lib.Dec.{ltb, eqb}
use lib.ListN.{get_or}
use Rattle.ranges.specs.Limits.{Within}
use Rattle.ranges.specs.Ranges.{joined, sum_over, count_over, all_over}
use Rattle.ranges.proofs.Sums.{sum_add}
use Rattle.ranges.proofs.Tests.{count_le, count_all, count_fails, count_add, count_cong, all_at}
use Rattle.dates.specs.Dates.{leap_day, year_days, month_days, days_to, day_of, month_of, month_left}
use Rattle.dates.proofs.Leaps.{by_leap}

-- the code's table
abbrev pub days_before : List ℕ
days_before = 0 ∷ 31 ∷ 59 ∷ 90 ∷ 120 ∷ 151 ∷ 181 ∷ 212 ∷ 243 ∷ 273 ∷ 304 ∷ 334 ∷ 365 ∷ []

-- what is said of a year, said of its leap days l
unfoldable days_with : ℕ → ℕ → ℕ
days_with l n = sum_over (λ k. cond (eqb (k + 1) 2) (28 + l) (cond (eqb (k + 1) 4 || eqb (k + 1) 6 || eqb (k + 1) 9 || eqb (k + 1) 11) 30 31)) n

days_with_law : (y n : ℕ) → days_to y n ≡ days_with (leap_day y) n
unfolding days_to days_with
days_with_law y n = refl

-- the table, and the leap day from March on
abbrev table_with : ℕ → ℕ → ℕ
table_with l m = get_or days_before m 0 + cond (ltb m 2) 0 l

-- one test of the whole table: it is the sum, and below 367
right : ℕ → ℕ → Bool
right l m = eqb (days_with l m) (table_with l m)

small : ℕ → ℕ → Bool
small l m = ltb (table_with l m) 367

module _ (l : ℕ) where
  right_at : all_over (right l) 13 ≡ true → (m : ℕ) → m < 13 → days_with l m ≡ table_with l m
  unfolding right
  right_at e m h = eqb-true _ _ (all_at (right l) 13 e m h)

  small_at : all_over (small l) 13 ≡ true → (m : ℕ) → m < 13 → table_with l m < 367
  unfolding small
  small_at e m h = ltb-true _ _ (all_at (small l) 13 e m h)

-- the days before a month, from 0 for January, by the table
pub days_table : (y m : ℕ) → m < 13 → days_to y m ≡ table_with (leap_day y) m
unfolding joined all_over right sum_over days_with
days_table y m h =
    days_with_law y m
    ∙ by_leap (λ l. days_with l m ≡ table_with l m) (right_at 0 refl m h) (right_at 1 refl m h) y

days_small : (y m : ℕ) → m < 13 → days_to y m < 367
unfolding joined small all_over
days_small y m h = rw (days_table y m h) (by_leap (λ l. table_with l m < 367) (small_at 0 refl m h) (small_at 1 refl m h) y)

-- what the code reads off the table: the days before the month, which are few
pub days_first : (y m : ℕ) → m < 2 → (get_or days_before m 0 ≡ days_to y m) × (get_or days_before m 0 < 367)
days_first y m h =
    let e = simp (lt-ltb m 2 h) at (days_table y m (omega arith)) in
    (omega arith, omega (arith, days_small y m (omega arith)))

pub days_later : (y m l : ℕ) → 2 ≤ m → m < 13 → l ≡ leap_day y → (get_or days_before m 0 + l ≡ days_to y m) × (get_or days_before m 0 + l < 367)
days_later y m l g h f =
    let e = simp (le-ltb m 2 g) at (days_table y m h) in
    (omega arith, omega (arith, days_small y m h))

-- the days of all months are the year's, and 31 December is the last
pub all_months : (y : ℕ) → days_to y 12 ≡ year_days y
all_months y = omega (arith, days_table y 12 (omega arith))

pub year_end : (y : ℕ) → day_of y 12 31 ≡ year_days y
year_end y = omega (arith, days_table y 11 (omega arith))

-- a later month ends no earlier
pub grows : (y m n : ℕ) → m ≤ n → days_to y m ≤ days_to y n
unfolding days_to
grows y m n h =
    let e : n ≡ m + (n - m) = omega arith in
    omega (arith, ap (days_to y) e, sum_add (λ k. month_days y (k + 1)) m (n - m))

-- the month of a day
module _ (y d : ℕ) where
  -- month k + 1 has ended before the day
  abbrev ended : ℕ → Bool
  ended k = ltb (days_to y (k + 1)) d

  -- where a month has not ended before it, no later one has
  later : (m : ℕ) → m ≤ 11 → d ≤ days_to y (m + 1) → count_over ended 11 ≡ count_over ended m
  later m h l =
      let e : 11 ≡ m + (11 - m) = omega arith in
      let none =
      count_fails (λ k. ended (m + k)) (11 - m)
      (λ k b. le-ltb (days_to y (m + k + 1)) d (omega (arith, grows y (m + 1) (m + k + 1) (omega arith)))) in
      omega (arith, ap (count_over ended) e, count_add ended m (11 - m), none)

  -- the first month that does not end before it, and December where all others do
  pub month_first : (m : ℕ) → 1 ≤ m → m ≤ 12 → ((k : ℕ) → k + 1 < m → days_to y (k + 1) < d) → d ≤ days_to y m → m ≡ month_of y d
  unfolding month_of
  month_first m a b before l =
      let e : m - 1 + 1 ≡ m = omega arith in
      let all = count_all ended (m - 1) (λ k h. lt-ltb (days_to y (k + 1)) d (before k (omega arith))) in
      omega (arith, later (m - 1) (omega arith) (rw e l), all)

  pub month_last : ((k : ℕ) → k < 11 → days_to y (k + 1) < d) → 12 ≡ month_of y d
  unfolding month_of
  month_last before = omega (arith, count_all ended 11 (λ k b. lt-ltb (days_to y (k + 1)) d (before k b)))

  -- a day is in no later month than one that it does not come after
  pub month_below : (m : ℕ) → m ≤ 11 → d ≤ days_to y (m + 1) → month_of y d ≤ m + 1
  unfolding month_of
  month_below m h l = omega (arith, later m h l, count_le ended m)

  -- the days that are left of a month lie in it
  pub month_stays : (i : ℕ) → i ≤ month_left y d → month_of y (d + i) ≡ month_of y d
  unfolding month_of month_left
  month_stays i h = ap (λ (n : ℕ). 1 + n) (count_cong _ _ 11 (λ k b. go k b (dec_lt (days_to y (k + 1)) d)))
    where
      go : (k : ℕ) → k < 11 → Dec (days_to y (k + 1) < d) → ltb (days_to y (k + 1)) (d + i) ≡ ltb (days_to y (k + 1)) d
      go k b (yes l) = lt-ltb (days_to y (k + 1)) (d + i) (omega arith) ∙ sym (lt-ltb (days_to y (k + 1)) d l)
      go k b (no l) =
          let in-time = grows y (month_of y d) (k + 1) (month_below k (omega arith) (omega arith)) in
          le-ltb (days_to y (k + 1)) (d + i) (omega (arith, in-time)) ∙ sym (le-ltb (days_to y (k + 1)) d (omega arith))

-- months are 1 to 12
pub month_range : (y d : ℕ) → Within 1 12 (month_of y d)
unfolding month_of
month_range y d = record { from = omega arith; to = omega (arith, count_le (λ k. ltb (days_to y (k + 1)) d) 11) }
