-- `bench_customer::all_customer_days` meets its contract. The loop's invariant: the state is that after the first d
-- days of the series.
-- Assumes nothing.
use mathlib.Core.Path.{◌≡◌}
use Prim.Native.Nat.{◌≤◌, ◌-◌}
use Rattle.dates.specs.Dates.{year_days}
use Rattle.readings.specs.declared.Run.TheVariants.{Year}
use Rattle.readings.specs.Days.{offered, days_of}
use Rattle.customer_days.specs.Days.{day_customer}
use Rattle.bench_customer.proofs.all_customer_days.Given as goal

abbrev pub invariant-loop-d : goal.invariant-loop-d
invariant-loop-d l =
    (l.d-end ≡ year_days l.year) × (l.d ≤ l.d-end) × (l.state ≡ offered day_customer l.initial.state (days_of (Year l.year) l.series l.d))

abbrev pub decreases-loop-d : goal.decreases-loop-d
decreases-loop-d l = l.d-end - l.d
