-- The layout in plain words: which dates have 92 and which have 100 readings, in every year, and how many positions
-- stand for each quarter.
-- Assumes nothing.
use mathlib.Core.Path.{◌≡◌, refl, sym, ◌∙◌}
use mathlib.Core.Logic.{◌↔◌, ◌⊎◌, inl, inr, ⊎_elim}
use Prim.Native.Nat.{ℕ, ◌+◌, ◌-◌, ◌≤◌, ◌<◌}
use native.Mathlib.Decide.{dec_lt}
use native.Mathlib.Omega.{arith}
use Rattle.dates.specs.Dates.{days_to, last_sunday}
use Rattle.dates.specs.Sundays.{IsLastSunday}
use Rattle.dates.proofs.Months.{grows}
use Rattle.dates.proofs.Sundays.{last_sunday_law, only_sunday, march_sunday_law, october_sunday_law}
use Rattle.periods.specs.Period.{period_days, period_date, october_sunday, march_sunday}
use Rattle.periods.proofs.Periods.{late, from_september, from_january}
use Rattle.periods.proofs.Sundays.{october_in, march_in, october_date, march_date}
use Rattle.readings.specs.declared.Run.{Run}
use Rattle.readings.specs.declared.Run.TheVariants.{Year, Period}
use Rattle.readings.specs.Runs.{run_days, change_of, day_len, quarter_in}
use Rattle.readings.specs.Plain.{year_on, day_on, PlainDays, OneFor, TwoFor, NoneFor, Away, EachQuarter}
use Rattle.readings.proofs.Spans.{LenKind, len_kind, len_short, len_long}
use Rattle.readings.proofs.Spans.LenKind.{is_short, is_long, is_usual}
use Rattle.readings.proofs.Quarters.{quarter_plain, short_early, short_late, long_early, long_late}
use Rattle.readings.proofs.Runs.{apart, changed_in, start_none, start_more, keeps_length}

-- what a position stands for on each of the two Sundays
shortly : (p : ℕ) → p < 92 → ((p < 8) × (quarter_in 92 p ≡ p)) ⊎ ((8 ≤ p) × (quarter_in 92 p ≡ p + 4))
shortly p m = go (dec_lt p 8)
  where
    go : Dec (p < 8) → ((p < 8) × (quarter_in 92 p ≡ p)) ⊎ ((8 ≤ p) × (quarter_in 92 p ≡ p + 4))
    go (yes l) = inl (l, short_early 92 p refl l)
    go (no l) = inr (omega arith, short_late 92 p refl (omega arith) m)

longly : (p : ℕ) → ((p < 12) × (quarter_in 100 p ≡ p)) ⊎ ((12 ≤ p) × (quarter_in 100 p ≡ p - 4))
longly p = go (dec_lt p 12)
  where
    go : Dec (p < 12) → ((p < 12) × (quarter_in 100 p ≡ p)) ⊎ ((12 ≤ p) × (quarter_in 100 p ≡ p - 4))
    go (yes l) = inl (l, long_early 100 p refl l)
    go (no l) = inr (omega arith, long_late 100 p refl (omega arith))

-- so the positions of each quarter
plain : (p : ℕ) → quarter_in 96 p ≡ p
plain p = quarter_plain 96 p (λ e. omega arith) (λ e. omega arith)

module _ (q : ℕ) where
  short_gap : 8 ≤ q → q < 12 → NoneFor 92 q
  short_gap a b p m e = ⊎_elim (λ h. omega (arith, h.0, h.1, e)) (λ h. omega (arith, h.0, h.1, e)) (shortly p m)

  short_one : q < 96 → Away q → OneFor 92 q
  short_one l away = go (dec_lt q 8) (dec_lt q 12)
    where
      go : Dec (q < 8) → Dec (q < 12) → OneFor 92 q
      go (yes a) b =
          record {
            at = q;
            at_in = omega arith;
            is = short_early 92 q refl a;
            only = λ p m e. ⊎_elim (λ h. omega (arith, h.1, e)) (λ h. absurd (omega (arith, h.0, h.1, e))) (shortly p m);
          }
      go (no a) (yes b) = absurd (away (omega arith) b)
      go (no a) (no b) =
          record {
            at = q - 4;
            at_in = omega arith;
            is = omega (arith, short_late 92 (q - 4) refl (omega arith) (omega arith));
            only = λ p m e. ⊎_elim (λ h. absurd (omega (arith, h.0, h.1, e))) (λ h. omega (arith, h.1, e)) (shortly p m);
          }

  long_twice : 8 ≤ q → q < 12 → TwoFor 100 q
  long_twice a b =
      record {
        first = q;
        second = q + 4;
        order = omega arith;
        second_in = omega arith;
        first_is = long_early 100 q refl b;
        second_is = omega (arith, long_late 100 (q + 4) refl (omega arith));
        only = λ p m e. ⊎_elim (λ h. inl (omega (arith, h.1, e))) (λ h. inr (omega (arith, h.0, h.1, e))) (longly p);
      }

  long_one : q < 96 → Away q → OneFor 100 q
  long_one l away = go (dec_lt q 8) (dec_lt q 12)
    where
      go : Dec (q < 8) → Dec (q < 12) → OneFor 100 q
      go (yes a) b =
          record {
            at = q;
            at_in = omega arith;
            is = long_early 100 q refl (omega arith);
            only = λ p m e. ⊎_elim (λ h. omega (arith, h.1, e)) (λ h. absurd (omega (arith, h.0, h.1, e))) (longly p);
          }
      go (no a) (yes b) = absurd (away (omega arith) b)
      go (no a) (no b) =
          record {
            at = q + 4;
            at_in = omega arith;
            is = omega (arith, long_late 100 (q + 4) refl (omega arith));
            only = λ p m e. ⊎_elim (λ h. absurd (omega (arith, h.0, h.1, e))) (λ h. omega (arith, h.0, h.1, e)) (longly p);
          }

-- and their order
module _ (p : ℕ) where
  short_later : p < 91 → quarter_in 92 p < quarter_in 92 (p + 1)
  short_later l =
      ⊎_elim
      (λ h. ⊎_elim (λ k. omega (arith, h.1, k.1)) (λ k. omega (arith, h.1, k.1)) (shortly (p + 1) (omega arith)))
      (λ h. ⊎_elim (λ k. absurd (omega (arith, h.0, k.0))) (λ k. omega (arith, h.1, k.1)) (shortly (p + 1) (omega arith)))
      (shortly p (omega arith))

  long_later : p < 99 → (p ≡ 11 → ⊥) → quarter_in 100 p < quarter_in 100 (p + 1)
  long_later l n =
      ⊎_elim
      (λ h. ⊎_elim (λ k. omega (arith, h.1, k.1)) (λ k. absurd (n (omega (arith, h.0, k.0)))) (longly (p + 1)))
      (λ h. ⊎_elim (λ k. absurd (omega (arith, h.0, k.0))) (λ k. omega (arith, h.0, h.1, k.1)) (longly (p + 1)))
      (longly p)

pub each_quarter : EachQuarter
each_quarter =
    record {
      usual = λ q l. record { at = q; at_in = l; is = plain q; only = λ p m e. sym (plain p) ∙ e };
      short_none = short_gap;
      short_else = short_one;
      long_two = long_twice;
      long_else = long_one;
      usual_order = λ p l. omega (arith, plain p, plain (p + 1));
      short_order = short_later;
      long_order = long_later;
      long_anew = long_late 100 12 refl (omega arith);
    }

-- a day's length tells which Sunday it is
module _ (run : Run) (d : ℕ) where
  pub short_day : (day_len run d ≡ 92) ↔ (d ≡ (change_of run).short)
  short_day = (λ e. go e (len_kind (change_of run) d), len_short (change_of run) d)
    where
      go : day_len run d ≡ 92 → LenKind (change_of run) d → d ≡ (change_of run).short
      go e (is_short a f) = a
      go e (is_long a b f) = absurd (omega (arith, e, f))
      go e (is_usual a b f) = absurd (omega (arith, e, f))

  pub long_day : (day_len run d ≡ 100) ↔ (d ≡ (change_of run).long)
  long_day = (λ e. go e (len_kind (change_of run) d), λ e. len_long (change_of run) d (λ f. apart run (sym e ∙ f)) e)
    where
      go : day_len run d ≡ 100 → LenKind (change_of run) d → d ≡ (change_of run).long
      go e (is_short a f) = absurd (omega (arith, e, f))
      go e (is_long a b f) = b
      go e (is_usual a b f) = absurd (omega (arith, e, f))

  usual_day : (day_len run d ≡ 92 → ⊥) → (day_len run d ≡ 100 → ⊥) → day_len run d ≡ 96
  usual_day n m = go (len_kind (change_of run) d)
    where
      go : LenKind (change_of run) d → day_len run d ≡ 96
      go (is_short a f) = absurd (n f)
      go (is_long a b f) = absurd (m f)
      go (is_usual a b f) = f

-- a period's day by its date: the last Sunday of March is one of January to August, that of October one of September
-- to December
module _ (y d : ℕ) (l : d < period_days y) where
  abbrev Sunday : ℕ → Type 0
  Sunday m = IsLastSunday (period_date y (d + 1)).year m (period_date y (d + 1)).day

  march_there : d + 1 ≡ march_sunday y → Sunday 3
  march_there e = rw (e, march_date y) (last_sunday_law (y - 1) 3 refl)

  october_there : d + 1 ≡ october_sunday y → Sunday 10
  october_there e = rw (e, october_date y) (last_sunday_law (y - 2) 10 refl)

  in_march : Sunday 3 → d + 1 ≡ march_sunday y
  unfolding march_sunday
  in_march s = go (dec_lt 122 (d + 1))
    where
      go : Dec (122 < d + 1) → d + 1 ≡ march_sunday y
      go (yes h) =
          let f = from_january y (d + 1) h in
          omega (arith, late (y - 2), only_sunday (y - 1) 3 (d + 1 - 122) refl (rw (f.0, f.1) at s))
      go (no h) =
          let f = from_september y (d + 1) (omega arith) in
          let t = rw (f.0, f.1) at s in
          absurd (omega (arith, t.to, grows (y - 2) 3 8 (omega arith)))

  in_october : Sunday 10 → d + 1 ≡ october_sunday y
  unfolding october_sunday period_days
  in_october s = go (dec_lt 122 (d + 1))
    where
      go : Dec (122 < d + 1) → d + 1 ≡ october_sunday y
      go (yes h) =
          let f = from_january y (d + 1) h in
          let t = rw (f.0, f.1) at s in
          absurd (omega (arith, l, t.from, late (y - 2), grows (y - 1) 8 9 (omega arith)))
      go (no h) =
          let f = from_september y (d + 1) (omega arith) in
          omega (arith, only_sunday (y - 2) 10 (days_to (y - 2) 8 + (d + 1)) refl (rw (f.0, f.1) at s))

-- a run's two Sundays by their dates
on_march : (run : Run) (d : ℕ) → d < run_days run → (d ≡ (change_of run).short) ↔ IsLastSunday (year_on run d) 3 (day_on run d)
unfolding change_of run_days
on_march (Year y) d l = (
  λ e. let f : d + 1 ≡ last_sunday y 3 = omega (arith, (march_sunday_law y).from) in rw f (last_sunday_law y 3 refl),
  λ s. omega (arith, only_sunday y 3 (d + 1) refl s),
)
on_march (Period y) d l = (λ e. march_there y d l (omega (arith, (march_in y).from)), λ s. omega (arith, in_march y d l s))

on_october : (run : Run) (d : ℕ) → d < run_days run → (d ≡ (change_of run).long) ↔ IsLastSunday (year_on run d) 10 (day_on run d)
unfolding change_of run_days
on_october (Year y) d l = (
  λ e. let f : d + 1 ≡ last_sunday y 10 = omega (arith, (october_sunday_law y).from) in rw f (last_sunday_law y 10 refl),
  λ s. omega (arith, only_sunday y 10 (d + 1) refl s),
)
on_october (Period y) d l = (λ e. october_there y d l (omega (arith, (october_in y).from)), λ s. omega (arith, in_october y d l s))

module _ (run : Run) where
  pub plain_days : PlainDays run
  plain_days =
      record {
        short = λ d l. (λ e. (on_march run d l).0 ((short_day run d).0 e), λ s. (short_day run d).1 ((on_march run d l).1 s));
        long = λ d l. (λ e. (on_october run d l).0 ((long_day run d).0 e), λ s. (long_day run d).1 ((on_october run d l).1 s));
        usual = usual_day run;
        has_short = ((changed_in run).0, (short_day run (change_of run).short).1 refl);
        has_long = ((changed_in run).1, (long_day run (change_of run).long).1 refl);
        keeps_length = keeps_length run;
        from_none = start_none run;
        next_start = start_more run;
      }
