-- The number of a date in its year: the code's two tests, by the days before the month and before the next, and its
-- sum; and that it is what it is called.
-- Assumes nothing.
use mathlib.Core.Path.{◌≡◌, sym, ap, ◌∙◌}
use mathlib.Core.Bool.{true, false, ◌||◌}
use mathlib.Core.Logic.{◌↔◌, ⊎_elim}
use Prim.Native.Nat.{ℕ, ◌+◌, ◌-◌, ◌≤◌}
use native.Mathlib.Omega.{arith}
use lib.Dec.{ltb}
use Rattle.ranges.specs.Limits.{Within, outside}
use Rattle.ranges.proofs.Bools.{decided, neither, within}
use Rattle.ranges.proofs.Sums.{sum_more}
use Rattle.dates.specs.Dates.{year_days, month_days, days_to, day_of, no_date, day_number, month_of}
use Rattle.dates.proofs.Months.{all_months, grows, month_first}

-- a month ends with its last day
pub month_ends : (y m : ℕ) → 1 ≤ m → days_to y m ≡ days_to y (m - 1) + month_days y m
unfolding days_to
month_ends y m h =
    let e : m - 1 + 1 ≡ m = omega arith in
    rw e at (sum_more (λ k. month_days y (k + 1)) (m - 1))

module _ (y m d : ℕ) where
  pub no_month : outside 1 12 m ≡ true → 0 ≡ day_number y m d
  unfolding day_number
  no_month e = rw e

  -- a month that the year has: its first day is behind the days before it, and its last no later than its end
  module _ (a : outside 1 12 m ≡ false) {before end : ℕ} (p : before ≡ days_to y (m - 1)) (q : end ≡ days_to y m) where
    has : Within 1 12 m
    has = (within 1 12 m).0 a

    pub long : end ≡ before + month_days y m
    long = omega (arith, p, q, month_ends y m has.from)

    tested : (ltb d 1 || ltb (end - before) d) ≡ outside 1 (month_days y m) d
    tested = ap (λ n. ltb d 1 || ltb n d) (omega (arith, long))

    pub no_day_law : (ltb d 1 || ltb (end - before) d) ≡ true → 0 ≡ day_number y m d
    unfolding day_number
    no_day_law e = rw (a, ← tested, e)

    pub numbered : (ltb d 1 || ltb (end - before) d) ≡ false → before + d ≡ day_number y m d
    unfolding day_number
    numbered e = rw (a, ← tested, e, p)

-- A date's number is a day of the year that lies in the date's month, and 0 only where the year does not have the date.
module _ (y m d : ℕ) where
  module _ (e : no_date y m d ≡ false) where
    month_in : Within 1 12 m
    month_in = (within 1 12 m).0 (neither (outside 1 12 m) (outside 1 (month_days y m) d) e).0

    day_in_law : Within 1 (month_days y m) d
    day_in_law = (within 1 (month_days y m) d).0 (neither (outside 1 12 m) (outside 1 (month_days y m) d) e).1

    number_is : day_number y m d ≡ day_of y m d
    unfolding day_number
    number_is = rw e

    pub number_in : Within 1 (year_days y) (day_number y m d)
    number_in =
        record {
          from = omega (arith, number_is, day_in_law.from);
          to = omega (arith, number_is, day_in_law.to, month_ends y m month_in.from, grows y m 12 month_in.to, all_months y);
        }

    pub number_month : month_of y (day_number y m d) ≡ m
    number_month =
        rw number_is
        (sym
        (month_first y (day_of y m d) m month_in.from month_in.to
        (λ k l. omega (arith, grows y (k + 1) (m - 1) (omega arith), day_in_law.from))
        (omega (arith, month_ends y m month_in.from, day_in_law.to))))

  pub number_zero : (day_number y m d ≡ 0) ↔ (no_date y m d ≡ true)
  unfolding day_number
  number_zero = (λ z. ⊎_elim (λ t. t) (λ f. absurd (omega (arith, z, (number_in f).from))) (decided (no_date y m d)), λ t. rw t)

-- so no two dates of a year have one number
pub one_date : (y m d n e : ℕ) → no_date y m d ≡ false → no_date y n e ≡ false → day_number y m d ≡ day_number y n e → (m ≡ n) × (d ≡ e)
one_date y m d n e p q s =
    let same : m ≡ n = sym (number_month y m d p) ∙ ap (month_of y) s ∙ number_month y n e q in
    (same, omega (arith, s, number_is y m d p, number_is y n e q, ap (λ (k : ℕ). days_to y (k - 1)) same))
