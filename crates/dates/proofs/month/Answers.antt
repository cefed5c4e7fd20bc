use Prim.Native.Nat.{ℕ, ◌+◌, ◌<◌}
use mathlib.Core.Path.{◌≡◌}
use native.Mathlib.Decide.{ℕ_discrete}
use native.Mathlib.Omega.{arith}
use Rattle.dates.specs.Dates.{days_to}
use Rattle.dates.proofs.Months.{month_first, month_last}
use Rattle.dates.proofs.month.Goals as goal

-- one month more
step : (m : ℕ) (f : ℕ → ℕ) (d : ℕ) → ((k : ℕ) → k + 1 < m → f (k + 1) < d) → f m < d → (k : ℕ) → k + 1 < m + 1 → f (k + 1) < d
step m f d before here k h = go (ℕ_discrete (k + 1) m)
  where
    go : Dec (k + 1 ≡ m) → f (k + 1) < d
    go (yes e) = rw e here
    go (no n) = before k (omega arith)

pub returns-then-day-days_to : goal.returns-then-day-days_to
returns-then-day-days_to c =
    let at = c.loop-m in
    month_first _ _ at.m at.invariant.0 at.invariant.1 at.invariant.2 (omega arith)

pub loop-m-preserved : goal.loop-m-preserved
loop-m-preserved c =
    let at = c.loop-m in
    let a = c.args in
    let here : days_to a.year at.m < a.day = omega (arith, c.days_to.ensures.0) in
    (omega arith, omega arith, λ k h. step at.m (days_to a.year) a.day at.invariant.2 here k h)

pub returns : goal.returns
returns c = let at = c.loop-m in month_last _ _ (λ k h. at.invariant.2 k (omega arith))

pub loop-m-init : goal.loop-m-init
loop-m-init c = (omega arith, omega arith, λ k h. omega arith)
