-- The reference period: its days, their dates and seasons, its first and its last day.
-- Assumes nothing.
use mathlib.Core.Path.{◌≡◌, refl, sym, ap, ◌∙◌}
use Prim.Native.Nat.{ℕ, ◌+◌, ◌-◌, ◌≤◌, ◌<◌}
use native.Mathlib.Decide.{dec_lt}
use native.Mathlib.Omega.{arith}
use borrow.Author.Tests.{le-leb, lt-leb}
use Rattle.ranges.specs.Limits.{Within}
use Rattle.dates.specs.Dates.{leap_day, year_days, most_days, days_to, day_of, month_of, month_left, winter, season_of}
use Rattle.dates.proofs.Leaps.{leap_small}
use Rattle.dates.proofs.Months.{days_table, grows, month_below}
use Rattle.dates.proofs.Seasons.{season_range, season_stays, year_room, past_winter}
use Rattle.periods.specs.declared.Date.{Date}
use Rattle.periods.specs.Period.{late_days, period_days, period_date, period_season, period_left}

pub period_season_range : (y k : ℕ) → Within 1 4 (period_season y k)
unfolding period_season
period_season_range y k = season_range _ _

pub period_season_law : (y k : ℕ) {r : ℕ} {d : Date} → r ≡ season_of d.year d.day → d ≡ period_date y k → r ≡ period_season y k
unfolding period_season
period_season_law y k e f = e ∙ ap (λ (d : Date). season_of d.year d.day) f

-- September to December have 122 days, in leap years too
pub late : (y : ℕ) → late_days y ≡ 122
late y = omega (arith, days_table y 8 (omega arith), leap_small y)

pub period_days_law : (y a n : ℕ) → a ≡ y - 1 → n ≡ year_days a → n ≡ period_days y
unfolding period_days
period_days_law y a n e f = omega (arith, f, late (y - 2), days_table (y - 1) 8 (omega arith), ap leap_day e)

-- a period has no more days than a year
pub period_most : (y : ℕ) → period_days y ≤ most_days
period_most y = omega (arith, period_days_law y (y - 1) (year_days (y - 1)) refl refl, leap_small (y - 1))

pub early_date : (y k a b : ℕ) → a ≡ y - 2 → b ≡ days_to a 8 → k ≤ 122 → record { year = a; day = b + k } ≡ period_date y k
unfolding period_date
early_date y k a b e f h = simp (e, f, late (y - 2), le-leb k 122 h)

-- its first day is found from the year's end
pub period_early : (y k a n : ℕ) → a ≡ y - 2 → n ≡ year_days a → k ≤ 122 → record { year = a; day = n - 122 + k } ≡ period_date y k
period_early y k a n e f h = early_date y k a (n - 122) e (omega (arith, f, late a, days_table a 8 (omega arith))) h

pub period_late : (y k a : ℕ) → a ≡ y - 1 → 122 < k → record { year = a; day = k - 122 } ≡ period_date y k
unfolding period_date
period_late y k a e h = simp (e, late (y - 2), lt-leb k 122 h)

-- far behind every period there is winter
pub period_far : (y k : ℕ) → 500 < k → period_season y k ≡ winter
period_far y k h =
    sym (period_season_law y k refl (period_late y k (y - 1) refl (omega arith))) ∙ past_winter (y - 1) (k - 122) (omega (arith, leap_small (y - 1)))

-- the period's first day is 1 September of y - 2, its last 31 August of y - 1 (Rule 4.1)
pub period_first : (y : ℕ) → period_date y 1 ≡ record { year = y - 2; day = day_of (y - 2) 9 1 }
period_first y = sym (early_date y 1 (y - 2) (days_to (y - 2) 8) refl refl (omega arith))

pub period_last : (y : ℕ) → period_date y (period_days y) ≡ record { year = y - 1; day = day_of (y - 1) 8 31 }
period_last y =
    let n : year_days (y - 1) ≡ period_days y = period_days_law y (y - 1) (year_days (y - 1)) refl refl in
    let e : period_days y - 122 ≡ day_of (y - 1) 8 31 = omega (arith, days_table (y - 1) 7 (omega arith)) in
    sym (period_late y (period_days y) (y - 1) refl (omega arith)) ∙ ap (λ (d : ℕ). record { year = y - 1; day = d }) e

-- the days that are left of a month lie in its season and in the period, too
module _ (y k : ℕ) where
  pub period_left_law : {r : ℕ} {d : Date} → r ≡ month_left d.year d.day → d ≡ period_date y k → r ≡ period_left y k
  unfolding period_left
  period_left_law e f = e ∙ ap (λ (d : Date). month_left d.year d.day) f

  -- September to December
  module _ (h : k ≤ 122) where
    abbrev early : ℕ
    early = days_to (y - 2) 8 + k

    early_left : month_left (y - 2) early ≡ period_left y k
    early_left = period_left_law refl (early_date y k (y - 2) (days_to (y - 2) 8) refl refl h)

    early_room : k + period_left y k ≤ 122
    early_room = omega (arith, early_left, late (y - 2), year_room (y - 2) early (omega (arith, late (y - 2))))

    early_stays : (i : ℕ) → i ≤ period_left y k → period_season y (k + i) ≡ period_season y k
    early_stays i l =
        let start = days_to (y - 2) 8 in
        let on : start + (k + i) ≡ early + i = omega arith in
        sym (period_season_law y (k + i) refl (early_date y (k + i) (y - 2) start refl refl (omega (arith, early_room))))
        ∙ ap (season_of (y - 2)) on ∙ season_stays (y - 2) early i (omega (arith, early_left))
        ∙ period_season_law y k refl (early_date y k (y - 2) start refl refl h)

  -- January to August
  module _ (h : 122 < k) where
    late_left : month_left (y - 1) (k - 122) ≡ period_left y k
    late_left = period_left_law refl (period_late y k (y - 1) refl h)

    late_room : k ≤ period_days y → k + period_left y k ≤ period_days y
    unfolding period_days month_left
    late_room l =
        let august = grows (y - 1) (month_of (y - 1) (k - 122)) 8 (month_below (y - 1) (k - 122) 7 (omega arith) (omega (arith, late (y - 2)))) in
        omega (arith, late_left, late (y - 2), august)

    late_stays : (i : ℕ) → i ≤ period_left y k → period_season y (k + i) ≡ period_season y k
    late_stays i l =
        let on : k + i - 122 ≡ k - 122 + i = omega arith in
        sym (period_season_law y (k + i) refl (period_late y (k + i) (y - 1) refl (omega arith)))
        ∙ ap (season_of (y - 1)) on ∙ season_stays (y - 1) (k - 122) i (omega (arith, late_left))
        ∙ period_season_law y k refl (period_late y k (y - 1) refl h)

  pub period_stays : (i : ℕ) → i ≤ period_left y k → period_season y (k + i) ≡ period_season y k
  period_stays i l = go (dec_lt 122 k)
    where
      go : Dec (122 < k) → period_season y (k + i) ≡ period_season y k
      go (no h) = early_stays (omega arith) i l
      go (yes h) = late_stays h i l

  pub period_room : k ≤ period_days y → k + period_left y k ≤ period_days y
  period_room l = go (dec_lt 122 k)
    where
      go : Dec (122 < k) → k + period_left y k ≤ period_days y
      go (no h) = omega (arith, early_room (omega arith), period_days_law y (y - 1) (year_days (y - 1)) refl refl)
      go (yes h) = late_room h l

-- each day's year and number, for who does not name a date
pub from_september : (y k : ℕ) → k ≤ 122 → ((period_date y k).year ≡ y - 2) × ((period_date y k).day ≡ day_of (y - 2) 9 k)
from_september y k h =
    let e = early_date y k (y - 2) (days_to (y - 2) 8) refl refl h in
    (ap (λ (d : Date). d.year) (sym e), ap (λ (d : Date). d.day) (sym e))

pub from_january : (y k : ℕ) → 122 < k → ((period_date y k).year ≡ y - 1) × ((period_date y k).day ≡ k - 122)
from_january y k h =
    let e = period_late y k (y - 1) refl h in
    (ap (λ (d : Date). d.year) (sym e), ap (λ (d : Date). d.day) (sym e))

pub to_august : (y : ℕ) → (period_date y (period_days y)).day ≡ day_of (y - 1) 8 31
to_august y = ap (λ (d : Date). d.day) (period_last y)
