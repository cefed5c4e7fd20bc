-- `readings::change_of` meets its contract: the last Sundays of March and October, which no first day of a year or
-- period is.
-- Assumes nothing.
use Prim.Native.Nat.{◌-◌}
use native.Mathlib.Omega.{arith}
use Rattle.dates.proofs.Sundays.{march_sunday_law, october_sunday_law}
use Rattle.periods.proofs.Sundays.{march_in, october_in}
use Rattle.readings.specs.Runs.{change_of}
use Rattle.readings.proofs.change_of.Goals as goal

pub returns-in-Year : goal.returns-in-Year
unfolding change_of
returns-in-Year c =
    let s = c.last_sunday.ensures in
    let l = c.last_sunday-in-Year.ensures in
    rw c.in-Year.is (λ i. record { short = s i - 1; long = l i - 1 })

pub returns-in-Period : goal.returns-in-Period
unfolding change_of
returns-in-Period c =
    let s = c.march_sunday.ensures in
    let l = c.october_sunday.ensures in
    rw c.in-Period.is (λ i. record { short = s i - 1; long = l i - 1 })

pub overflow_sub-result : goal.overflow_sub-result
overflow_sub-result c = omega (arith, c.last_sunday.ensures, (march_sunday_law c.in-Year.year).from)

pub overflow_sub-result-in-Year : goal.overflow_sub-result-in-Year
overflow_sub-result-in-Year c = omega (arith, c.last_sunday-in-Year.ensures, (october_sunday_law c.in-Year.year).from)

pub overflow_sub-result-in-Period : goal.overflow_sub-result-in-Period
overflow_sub-result-in-Period c = omega (arith, c.march_sunday.ensures, (march_in c.in-Period.year).from)

pub overflow_sub-result-in-Period-2 : goal.overflow_sub-result-in-Period-2
overflow_sub-result-in-Period-2 c = omega (arith, c.october_sunday.ensures, (october_in c.in-Period.year).from)
