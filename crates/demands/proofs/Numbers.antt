-- The numbers and dates of the rules (specs/Numbers) are those of the definitions.
-- Assumes nothing.
use mathlib.Core.Path.{◌≡◌, refl, sym, ap, ◌∙◌}
use mathlib.Core.Bool.{and-false, or-true}
use mathlib.Core.Logic.{◌↔◌, ◌⊎◌, ⊎_elim}
use Prim.Native.Nat.{ℕ, ◌+◌, ◌-◌, ◌%◌, ◌≤◌}
use native.Mathlib.Omega.{arith}
use borrow.Author.Tests.{le-leb, lt-leb, eq-eqb, ne_eqb}
use Rattle.ranges.specs.Limits.{Within}
use Rattle.ranges.proofs.Sums.{sum_more}
use Rattle.answers.specs.Ruling.{share_of}
use Rattle.answers.proofs.Laws.{today_legal}
use Rattle.dates.specs.Dates.{leap, leap_day, year_days, month_days, days_to, day_of, season_of_month, season_of}
use Rattle.dates.proofs.Counted.{anchor, next_day, new_year}
use Rattle.dates.proofs.Months.{grows, month_first}
use Rattle.periods.specs.Period.{period_season}
use Rattle.periods.proofs.Periods.{from_september, from_january, to_august}
use Rattle.demands.specs.Numbers.{Numbers, Dates}

-- a range as two orders
range : (a b x : ℕ) → Within a b x ↔ ((a ≤ x) × (x ≤ b))
range a b x = ((λ w. (w.from, w.to)), λ h. record { from = h.0; to = h.1 })

pub numbers : Numbers
unfolding share_of
numbers =
    record {
      edition_years = λ ed y. ((λ h. (h.allowed, h.own)), λ h. record { allowed = h.0; own = h.1 });
      years = λ y. (
        (λ h. (h.own.from, h.own.to)),
        λ h. record { allowed = record { from = h.0; to = omega (arith, h.1) }; own = record { from = h.0; to = h.1 } },
      );
      editions_limit = refl;
      first_year = refl;
      last_year = refl;
      percents = refl;
      move_limit = refl;
      reduction_limit = refl;
      hours_limit = refl;
      levels = range 1 7;
      grid_limit = refl;
      customer_limit = refl;
      missing_is = refl;
      capacity_limit = refl;
      energy_limit = refl;
      holidays_limit = refl;
      quarters = refl;
      windows_limit = refl;
      share_is = λ ed level. refl;
      move_is = λ ed. refl;
      reduction_is = λ ed. refl;
      share_1 = refl;
      share_2 = refl;
      share_3 = refl;
      share_4 = refl;
      share_5 = refl;
      share_6 = refl;
      share_7 = refl;
      move = refl;
      reduction = refl;
      line = refl;
      floor = refl;
      hours = refl;
      legal = today_legal;
    }

-- the days of a year
leap_days : (y : ℕ) → y % 4 ≡ 0 → (y % 100 ≡ 0 → ⊥) ⊎ (y % 400 ≡ 0) → year_days y ≡ 366
unfolding leap_day leap
leap_days y four = ⊎_elim (λ n. simp (eq-eqb _ _ four, ne_eqb _ _ n)) (λ e. simp (eq-eqb _ _ four, eq-eqb _ _ e, or-true))

common_days : (y : ℕ) → (y % 4 ≡ 0 → ⊥) ⊎ ((y % 100 ≡ 0) × (y % 400 ≡ 0 → ⊥)) → year_days y ≡ 365
unfolding leap_day leap
common_days y = ⊎_elim (λ n. simp (ne_eqb _ _ n)) (λ h. simp (eq-eqb _ _ h.0, ne_eqb _ _ h.1, and-false))

-- the j-th of month m lies in the month; j and m count from 1
module _ (y m j : ℕ) (h : Within 1 12 m) (w : Within 1 (month_days y m) j) where
  in_month : day_of y m j ≤ days_to y m
  unfolding days_to
  in_month =
      let e : m - 1 + 1 ≡ m = omega (arith, h.from) in
      let more = sum_more (λ k. month_days y (k + 1)) (m - 1) in
      omega (arith, w.to, more, ap (days_to y) e, ap (month_days y) e)

  season_at : season_of y (day_of y m j) ≡ season_of_month m
  unfolding season_of
  season_at =
      sym (ap season_of_month (month_first y (day_of y m j) m h.from h.to (λ k l. omega (arith, w.from, grows y (k + 1) (m - 1) (omega arith))) in_month))

-- the seasons of the months
module _ (y m j : ℕ) where
  winter_at : Within 1 2 m ⊎ (m ≡ 12) → Within 1 (month_days y m) j → season_of y (day_of y m j) ≡ 1
  winter_at w h =
      ⊎_elim (λ (a : Within 1 2 m). season_at y m j (record { from = a.from; to = omega (arith, a.to) }) h
      ∙ simp (lt-leb 3 m (omega (arith, a.to)), lt-leb 6 m (omega (arith, a.to)), lt-leb 9 m (omega (arith, a.to))))
      (λ (e : m ≡ 12). season_at y m j (record { from = omega (arith, e); to = omega (arith, e) }) h ∙ ap season_of_month e) w

  spring_at : Within 3 5 m → Within 1 (month_days y m) j → season_of y (day_of y m j) ≡ 2
  spring_at a h =
      season_at y m j (record { from = omega (arith, a.from); to = omega (arith, a.to) }) h ∙ simp (le-leb 3 m a.from, le-leb m 5 a.to)

  summer_at : Within 6 8 m → Within 1 (month_days y m) j → season_of y (day_of y m j) ≡ 3
  summer_at a h =
      season_at y m j (record { from = omega (arith, a.from); to = omega (arith, a.to) }) h
      ∙ simp (lt-leb m 5 (omega (arith, a.from)), and-false, le-leb 6 m a.from, le-leb m 8 a.to)

  autumn_at : Within 9 11 m → Within 1 (month_days y m) j → season_of y (day_of y m j) ≡ 4
  autumn_at a h =
      season_at y m j (record { from = omega (arith, a.from); to = omega (arith, a.to) }) h
      ∙ simp (lt-leb m 5 (omega (arith, a.from)), lt-leb m 8 (omega (arith, a.from)), and-false, le-leb 9 m a.from, le-leb m 11 a.to)

pub dates : Dates
unfolding period_season
dates =
    record {
      leap = leap_days;
      common = common_days;
      anchor = anchor;
      next_day = next_day;
      new_year = new_year;
      winter = winter_at;
      spring = spring_at;
      summer = summer_at;
      autumn = autumn_at;
      period_autumn = from_september;
      period_rest = from_january;
      period_last = to_august;
      period_season_law = λ y k. refl;
    }
