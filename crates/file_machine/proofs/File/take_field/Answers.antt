-- `file_machine::File::take_field` meets its contract, a case for each return.
-- Assumes nothing.
use mathlib.Core.Path.{◌≡◌, sym, ◌∙◌}
use Prim.Native.Nat.{◌+◌, ◌≤◌}
use native.Mathlib.Omega.{arith}
use lib.ListN.{length}
use lib.Seq.{length-take-le}
use Rattle.fields.specs.declared.Stage.TheVariants.{Going}
use Rattle.fields.specs.Machine.{field_size, head_with}
use Rattle.fields.proofs.Header.{is_field}
use Rattle.fields.proofs.Machine.{field_refused, field_taken, span_cut, span_held, span_laid}
use Rattle.file_machine.specs.FileMachine.{file_reader}
use borrow.Author.Rules.{rules}
use Rattle.file_machine.proofs.File.take_field.Goals.{After-lay}
use Rattle.file_machine.proofs.File.take_field.Goals as goal

-- the header with the field in it, the bytes that it takes, and the number of fields taken
head_at : (g : _) (e : After-lay g) → e.lay.new.out ≡ head_with (file_reader g.S.Series.kind) e.args.self e.args.b.now
head_at g e =
    let m = g.S.Series in
    let s = e.args.self in
    let long : length s.head ≡ g.row.N = search rules in
    span_laid (file_reader m.kind) s (m.laws.fits _ _ _) e.requires.0 _ (omega arith) long e.lay.ensures

held_at : (g : _) (e : After-lay g) → field_size (file_reader g.S.Series.kind) e.args.self ≤ length e.args.b.now
held_at g e = let a = e.args in let m = g.S.Series in span_held (file_reader m.kind) a.self (m.laws.fits _ _ _) e.requires.0 a.b.now (omega arith)

few_at : (g : _) (e : After-lay g) → e.args.self.field ≤ 400
few_at g e =
    let m = g.S.Series in
    omega (arith, is_field (m.laws.fits _ _ _) e.requires.0 e.requires.1, m.laws.few e.args.self.editions e.args.self.head)

pub returns-then-b-span : goal.returns-then-b-span
returns-then-b-span g c = let m = g.S.Series in c.ended.ensures ∙ span_cut (file_reader m.kind) _ (m.laws.fits _ _ _) c.requires.0 _ (omega arith)

pub returns-then-number-ne0 : goal.returns-then-number-ne0
returns-then-number-ne0 g c =
    let w = goal.at.returns-then-number-ne0 g c in
    c.ended-then-number-ne0.ensures
    ∙ field_refused (file_reader g.S.Series.kind) _ _ (held_at g w.After-lay) (head_at g w.After-lay) c.refusal-number.ensures c.if-number-ne0.true

pub returns : goal.returns
returns g c =
    let w = goal.at.returns g c in
    let s = c.args.self in
    (λ i. record { editions = s.editions; field = s.field + 1; head = c.lay.new.out; series = c.opened-series.ensures i; stage = Going })
    ∙ field_taken (file_reader g.S.Series.kind) _ _ (held_at g w.After-lay) (head_at g w.After-lay) (sym c.refusal-number.ensures ∙ c.if-number-ne0.false)

pub slice_bounds-lay-end-2 : goal.slice_bounds-lay-end-2
slice_bounds-lay-end-2 g c = sym (length-take-le _ _ (omega arith))

pub overflow_add-field : goal.overflow_add-field
overflow_add-field g c = omega (arith, few_at g (goal.at.overflow_add-field g c).After-lay)
