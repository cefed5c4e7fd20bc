-- `file_machine::File::feed` meets its contract, a case for each return.
-- Assumes nothing.
use mathlib.Core.Path.{◌∙◌}
use native.Mathlib.Omega.{arith}
use borrow.Author.Rules.{rules}
use Rattle.fields.proofs.Header.{is_field, no_field_law}
use Rattle.fields.proofs.Machine.{fed_none, fed_field, fed_day, fed_end}
use Rattle.file_machine.specs.FileMachine.{file_reader}
use Rattle.file_machine.proofs.File.feed.Goals as goal

pub returns-then-span-gt0 : goal.returns-then-span-gt0
returns-then-span-gt0 g c =
    let m = g.S.Series in
    let span = c.span_of-span.ensures _ in
    c.take_field.ensures ∙ fed_field (file_reader m.kind) _ (cc) (is_field (m.laws.fits _ _ _) span (omega arith)) _

pub returns-then-seen-run_days : goal.returns-then-seen-run_days
returns-then-seen-run_days g c =
    let m = g.S.Series in
    let span = c.span_of-span.ensures _ in
    let s = c.args.self in
    let more = rw (c.seen.ensures, c.run_days.ensures, c.run.ensures, m.laws.all_days s.series) at c.if-seen-run_days.true in
    c.take_day.ensures ∙ fed_day (file_reader m.kind) _ (cc) (no_field_law (m.laws.fits _ _ _) span (omega arith)) more _

pub returns : goal.returns
returns g c =
    let m = g.S.Series in
    let span = c.span_of-span.ensures _ in
    let s = c.args.self in
    let none = rw (c.seen.ensures, c.run_days.ensures, c.run.ensures, m.laws.all_days s.series) at c.if-seen-run_days.false in
    c.take_end.ensures ∙ fed_end (file_reader m.kind) _ (cc) (no_field_law (m.laws.fits _ _ _) span (omega arith)) (omega arith) _

pub returns-then-not-is_going : goal.returns-then-not-is_going
returns-then-not-is_going g c = fed_none (file_reader g.S.Series.kind) _ (cc) _

pub take_field-requires : goal.take_field-requires
take_field-requires g c = (search rules, (c.span_of-span.ensures _, c.if-span-gt0.true))
