-- A day that comes singly has 96 readings, unless it may be one of the two Sundays.
-- Assumes nothing.
use mathlib.Core.Path.{◌≡◌, sym, ap}
use mathlib.Core.Bool.{true}
use Prim.Native.Nat.{ℕ, ◌-◌, ◌≤◌}
use native.Mathlib.Omega.{arith}
use Rattle.ranges.specs.Limits.{outside}
use Rattle.readings.specs.declared.Run.{Run}
use Rattle.readings.specs.declared.Run.TheVariants.{Year, Period}
use Rattle.readings.specs.declared.Change.{Change}
use Rattle.answers.specs.Ruling.{day_quarters}
use Rattle.readings.specs.Runs.{change_of, len_by, span_by, day_len, day_span}
use Rattle.readings.specs.Near.{latest_of}
use Rattle.readings.proofs.Runs.{usual_len}

-- the run's own Sundays
pub own_span : (run : Run) (d : ℕ) {own : Change} → own ≡ change_of run → span_by own d ≡ day_span run d
own_span run d e = ap (λ (s : Change). span_by s d) e

pub own_len : (run : Run) (d : ℕ) {own : Change} → own ≡ change_of run → len_by own d ≡ day_len run d
own_len run d e = ap (λ (s : Change). len_by s d) e

module _ (run : Run) {late : Change} (e : late ≡ latest_of run) where
  -- both come after the first week
  latest_late : (r : Run) → (7 ≤ (latest_of r).short) × (7 ≤ (latest_of r).long)
  latest_late (Year y) = (omega arith, omega arith)
  latest_late (Period y) = (omega arith, omega arith)

  pub late_enough : (7 ≤ late.short) × (7 ≤ late.long)
  late_enough = rw e (latest_late run)

  -- a day that lies before or behind each of them, whenever they are
  pub far_len :
      (d : ℕ)
      → outside (late.short - 7) late.short d ≡ true
      → outside (late.long - 7) late.long d ≡ true
      → day_quarters ≡ day_len run d
  far_len d a b = sym (usual_len run d (rw e at a) (rw e at b))
