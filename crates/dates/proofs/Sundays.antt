-- The last Sunday of a month: it is one in plain words, there is no other, and where those of March and October lie.
-- Assumes nothing.
use mathlib.Core.Path.{◌≡◌, refl, sym, ap, ◌∙◌}
use mathlib.Core.Bool.{Bool, true, false, cond, ◌||◌}
use Prim.Native.Nat.{ℕ, ◌+◌, ◌-◌, ◌%◌, ◌≤◌, ◌<◌}
use native.Mathlib.Decide.{dec_lt}
use native.Mathlib.Omega.{arith}
use lib.Dec.{eqb}
use Rattle.ranges.specs.Limits.{Within, outside}
use Rattle.ranges.proofs.Bools.{within}
use Rattle.dates.specs.Dates.{leap_day, days_to, month_of, weekday_of, sunday, last_sunday}
use Rattle.dates.specs.Sundays.{IsLastSunday}
use Rattle.dates.proofs.Months.{days_table, grows, month_first}
use Rattle.dates.proofs.Numbers.{month_ends}
use Rattle.dates.proofs.Counted.{weekday_small}

pub no_sunday : (y m : ℕ) → outside 1 12 m ≡ true → 0 ≡ last_sunday y m
unfolding last_sunday
no_sunday y m e = rw e

pub sunday_is : (y m : ℕ) → outside 1 12 m ≡ false → days_to y m - (weekday_of y (days_to y m) + 1) % 7 ≡ last_sunday y m
unfolding last_sunday
sunday_is y m e = rw e

-- n days on, the weekday is n on
on : (y d n : ℕ) → weekday_of y (d + n) ≡ (weekday_of y d + n) % 7
unfolding weekday_of
on y d n = omega arith

-- a month has 28 days or more
month_least : (a b : Bool) (l : ℕ) → 28 ≤ cond a (28 + l) (cond b 30 31)
month_least true b l = omega arith
month_least false true l = omega arith
month_least false false l = omega arith

module _ (y m : ℕ) (h : outside 1 12 m ≡ false) where
  months : Within 1 12 m
  months = (within 1 12 m).0 h

  pub week_in : days_to y (m - 1) + 28 ≤ days_to y m
  week_in = omega (arith, month_ends y m months.from, month_least (eqb m 2) (eqb m 4 || eqb m 6 || eqb m 9 || eqb m 11) (leap_day y))

  -- the month's last day comes so many days after a Sunday
  abbrev late : ℕ
  late = (weekday_of y (days_to y m) + 1) % 7

  lies : last_sunday y m + late ≡ days_to y m
  lies = omega (arith, sunday_is y m h, week_in)

  there : weekday_of y (last_sunday y m) ≡ sunday
  there =
      let last : weekday_of y (days_to y m) ≡ (weekday_of y (last_sunday y m) + late) % 7 = ap (weekday_of y) (sym lies) ∙ on y (last_sunday y m) late in
      omega (arith, last, weekday_small y (last_sunday y m), weekday_small y (days_to y m))

  pub last_sunday_law : IsLastSunday y m (last_sunday y m)
  last_sunday_law =
      record {
        from = omega (arith, lies, week_in);
        to = omega (arith, lies);
        is_sunday = there;
        next_sunday = omega (arith, on y (last_sunday y m) 7, there);
        next_out = omega (arith, lies);
      }

  -- it is a day of its month
  pub sunday_month : month_of y (last_sunday y m) ≡ m
  sunday_month =
      let s = last_sunday_law in
      sym
      (month_first y (last_sunday y m) m months.from months.to
      (λ k l. omega (arith, s.from, grows y (k + 1) (m - 1) (omega arith)))
      s.to)

-- there is no other: of two, the later is less than a week after the earlier, and has the same weekday
one_sunday : (y m d e : ℕ) → d ≤ e → IsLastSunday y m d → IsLastSunday y m e → d ≡ e
one_sunday y m d e l s t =
    let same : d + (e - d) ≡ e = omega arith in
    omega (arith, ap (weekday_of y) same, on y d (e - d), s.is_sunday, t.is_sunday, s.next_out, t.to)

pub only_sunday : (y m d : ℕ) → outside 1 12 m ≡ false → IsLastSunday y m d → d ≡ last_sunday y m
only_sunday y m d h s = go (dec_lt d (last_sunday y m))
  where
    go : Dec (d < last_sunday y m) → d ≡ last_sunday y m
    go (yes l) = one_sunday y m d (last_sunday y m) (omega arith) s (last_sunday_law y m h)
    go (no l) = sym (one_sunday y m (last_sunday y m) d (omega arith) (last_sunday_law y m h) s)

-- where those of March and October lie, in every year: a leap day puts both off
pub march_sunday_law : (y : ℕ) → Within (84 + leap_day y) (90 + leap_day y) (last_sunday y 3)
march_sunday_law y =
    let e = lies y 3 refl in
    let end = days_table y 3 (omega arith) in
    record { from = omega arith; to = omega arith }

pub october_sunday_law : (y : ℕ) → Within (298 + leap_day y) (304 + leap_day y) (last_sunday y 10)
october_sunday_law y =
    let e = lies y 10 refl in
    let end = days_table y 10 (omega arith) in
    record { from = omega arith; to = omega arith }
