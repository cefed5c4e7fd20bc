-- `legal_readings::check_next` meets its contract, a law for each return.
-- Assumes nothing.
use mathlib.Core.Path.{◌≡◌, sym, ◌∙◌}
use Prim.Native.Nat.{◌<◌}
use native.Mathlib.Omega.{arith}
use lib.ListN.{length}
use Rattle.readings.specs.Runs.{run_days, day_len}
use Rattle.readings.proofs.Runs.{len_most}
use Rattle.readings.proofs.Legal.{placed}
use Rattle.readings.proofs.Days.{next_out, next_length, next_bad, next_taken}
use Rattle.legal_readings.proofs.check_next.Goals.{Else-day-day_len, Else-run_days-seen}
use Rattle.legal_readings.proofs.check_next.Goals as goal

-- a day is left, and the given one has its length
left : (e : Else-run_days-seen) → let a = e.args in a.seen < run_days a.run
left e = omega (arith, e.run_days.ensures)

long :
    (e : Else-day-day_len)
    → let a = e.args in
    length a.day.now ≡ day_len a.run a.seen
long e = e.if-day-day_len.false ∙ e.day_len.ensures

pub returns-then-run_days-seen : goal.returns-then-run_days-seen
returns-then-run_days-seen c =
    let a = c.args in
    next_out a.run a.limit a.seen a.day.now (omega (arith, c.run_days.ensures))

pub returns-then-day-day_len : goal.returns-then-day-day_len
returns-then-day-day_len c =
    let a = c.args in
    next_length a.run a.limit a.seen a.day.now (left (goal.at.returns-then-day-day_len c).Else-run_days-seen)
    (λ e. c.if-day-day_len.true (e ∙ sym c.day_len.ensures))

pub overflow_cast-result : goal.overflow_cast-result
overflow_cast-result c =
    let a = c.args in
    let first = placed a.limit a.day.now (sym c.in-Some.is ∙ c.first_above.ensures) in
    omega (arith, first.1, long (goal.at.overflow_cast-result c).Else-day-day_len, len_most a.run a.seen)

pub returns-in-Some : goal.returns-in-Some
returns-in-Some c =
    let w = goal.at.returns-in-Some c in
    let a = c.args in
    let first = placed a.limit a.day.now (sym c.in-Some.is ∙ c.first_above.ensures) in
    next_bad a.run a.limit a.seen a.day.now (left w.Else-run_days-seen) (long w.Else-day-day_len) first.2 first.0

pub returns : goal.returns
returns c =
    let w = goal.at.returns c in
    let a = c.args in
    let none = placed a.limit a.day.now (sym c.in_default.is ∙ c.first_above.ensures) in
    next_taken a.run a.limit a.seen a.day.now (left w.Else-run_days-seen) (long w.Else-day-day_len) none

pub overflow_add-result : goal.overflow_add-result
overflow_add-result c = omega (arith, c.run_days.ensures)
