-- `file_machine::File::want` meets its contract, a case for each return.
-- Assumes nothing.
use mathlib.Core.Path.{ap, ◌∙◌}
use Prim.Native.Nat.{ℕ, ◌*◌, ◌≤◌}
use native.Mathlib.Omega.{arith}
use Rattle.readings.specs.Runs.{day_len}
use Rattle.readings.proofs.Runs.{len_most}
use Rattle.fields.proofs.Header.{span_width, span_few, is_field, no_field_law}
use Rattle.fields.proofs.Machine.{wants_none, wants_field, wants_day, wants_end}
use Rattle.file_machine.specs.FileMachine.{file_reader}
use Rattle.file_machine.proofs.File.want.Goals.{After-day_len}
use Rattle.file_machine.proofs.File.want.Goals as goal

-- a day has at most a hundred readings
len_few : (g : _) (e : After-day_len g) → e.day_len.result ≤ 100
len_few g e = omega (arith, e.day_len.ensures, len_most e.run-run.result e.seen-seen.result)

pub returns-then-not-is_going : goal.returns-then-not-is_going
returns-then-not-is_going g c = (wants_none (file_reader g.S.Series.kind) _ (cc), omega arith)

pub returns-then-size-gt0 : goal.returns-then-size-gt0
returns-then-size-gt0 g c =
    let m = g.S.Series in
    let span = c.span_of-size.ensures _ in
    let fit = m.laws.fits _ _ _ in (
      span_width fit span ∙ wants_field (file_reader m.kind) _ (cc) (is_field fit span (omega arith)),
      omega (arith, span_few fit span),
    )

pub returns-then-run_days-seen : goal.returns-then-run_days-seen
returns-then-run_days-seen g c =
    let m = g.S.Series in
    let s = c.args.self in
    let span = c.span_of-size.ensures _ in
    let none = rw (c.seen-seen.ensures, c.run_days.ensures, c.run-run.ensures, m.laws.all_days s.series) at c.if-run_days-seen.true in
    (wants_end (file_reader m.kind) _ (cc) (no_field_law (m.laws.fits _ _ _) span (omega arith)) none, omega arith)

pub returns : goal.returns
returns g c =
    let m = g.S.Series in
    let s = c.args.self in
    let span = c.span_of-size.ensures _ in
    let more = rw (c.seen-seen.ensures, c.run_days.ensures, c.run-run.ensures, m.laws.all_days s.series) at c.if-run_days-seen.false in
    let len = c.day_len.ensures ∙ (λ i. day_len (c.run-run.ensures i) (c.seen-seen.ensures i)) in (
      ap (λ (n : ℕ). 4 * n) len
          ∙ wants_day (file_reader m.kind) _ (cc) (no_field_law (m.laws.fits _ _ _) span (omega arith)) (omega arith),
      omega (arith, len_few g c),
    )

pub overflow_mul-result : goal.overflow_mul-result
overflow_mul-result g c = omega (arith, len_few g c)
