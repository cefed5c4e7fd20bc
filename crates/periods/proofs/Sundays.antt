-- The period's last Sundays in October and March: which dates they are, and where they lie in every period.
-- Assumes nothing.
use mathlib.Core.Path.{◌≡◌, refl, sym, ap, ◌∙◌}
use Prim.Native.Nat.{ℕ, ◌+◌, ◌-◌}
use native.Mathlib.Omega.{arith}
use Rattle.ranges.specs.Limits.{Within}
use Rattle.dates.specs.Dates.{leap_day, year_days, days_to, last_sunday}
use Rattle.dates.proofs.Months.{days_table}
use Rattle.dates.proofs.Sundays.{march_sunday_law, october_sunday_law}
use Rattle.periods.specs.Period.{period_date, october_sunday, march_sunday}
use Rattle.periods.proofs.Periods.{late, early_date, period_late}

pub october_is : (y a n s : ℕ) → a ≡ y - 2 → n ≡ year_days a → s ≡ last_sunday a 10 → s - (n - 122) ≡ october_sunday y
unfolding october_sunday
october_is y a n s e f g =
    omega (arith, g, f, ap (λ (k : ℕ). last_sunday k 10) e, ap (λ (k : ℕ). days_to k 8) e, days_table a 8 (omega arith))

pub march_is : (y a s : ℕ) → a ≡ y - 1 → s ≡ last_sunday a 3 → 122 + s ≡ march_sunday y
unfolding march_sunday
march_is y a s e g = omega (arith, g, late (y - 2), ap (λ (k : ℕ). last_sunday k 3) e)

-- in every period
module _ (y : ℕ) where
  pub october_in : Within 55 61 (october_sunday y)
  unfolding october_sunday
  october_in =
      let s = october_sunday_law (y - 2) in
      let e = days_table (y - 2) 8 (omega arith) in
      record { from = omega (arith, s.from); to = omega (arith, s.to) }

  pub march_in : Within (206 + leap_day (y - 1)) (212 + leap_day (y - 1)) (march_sunday y)
  unfolding march_sunday
  march_in =
      let s = march_sunday_law (y - 1) in
      let e = late (y - 2) in
      record { from = omega (arith, s.from); to = omega (arith, s.to) }

  -- the one is a day of y - 2, the other of y - 1
  pub october_date : period_date y (october_sunday y) ≡ record { year = y - 2; day = last_sunday (y - 2) 10 }
  unfolding october_sunday
  october_date =
      let s = october_sunday_law (y - 2) in
      let t = days_table (y - 2) 8 (omega arith) in
      let e : days_to (y - 2) 8 + october_sunday y ≡ last_sunday (y - 2) 10 = omega (arith, s.from) in
      sym (early_date y (october_sunday y) (y - 2) (days_to (y - 2) 8) refl refl (omega (arith, october_in.to)))
      ∙ ap (λ (d : ℕ). record { year = y - 2; day = d }) e

  pub march_date : period_date y (march_sunday y) ≡ record { year = y - 1; day = last_sunday (y - 1) 3 }
  unfolding march_sunday
  march_date =
      let e : march_sunday y - 122 ≡ last_sunday (y - 1) 3 = omega (arith, late (y - 2)) in
      sym (period_late y (march_sunday y) (y - 1) refl (omega (arith, march_in.from)))
      ∙ ap (λ (d : ℕ). record { year = y - 1; day = d }) e
