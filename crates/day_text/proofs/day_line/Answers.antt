-- `day_text::day_line` meets its contract: date, weekday and word fit into the line's 40 bytes, and the line is written
-- where it fits.
-- Assumes nothing.
use mathlib.Core.Path.{◌≡◌, refl, sym, ap, ◌∙◌}
use Prim.Native.Nat.{◌≤◌}
use native.Mathlib.Omega.{arith}
use borrow.Author.Rules.{rules}
use lib.ListN.{length}
use lib.Seq.{length-take-le}
use Rattle.texts.specs.Text.{Writes}
use Rattle.texts.specs.declared.Writer.{Writer}
use Rattle.day_kinds.specs.Kinds.{kind_code}
use Rattle.dates.specs.Dates.{weekday_of}
use Rattle.day_text.specs.Asked.{year_at, day_at}
use Rattle.day_text.specs.Text.{weekday_name, kind_word, day_line}
use Rattle.day_text.proofs.Line.{lined}
use Rattle.day_text.proofs.Short.{weekday_short, word_short}
use Rattle.texts.proofs.Writing.{copied}
use Rattle.day_text.proofs.day_line.Goals.{After-add-6}
use Rattle.day_text.proofs.day_line.Goals as goal

-- the whole line is written into the array
written :
    (e : After-add-6)
    → (s : Writer) × (s.at ≡ 0) × (length s.buf.now ≡ 40) × Writes s (day_line e.args.b.now (kind_code e.args.kind)) e.add-6.new.self
unfolding day_line
written e =
    let name : e.weekday_name.result.now ≡ weekday_name (weekday_of (year_at e.args.b.now 0) (day_at e.args.b.now 0)) =
    e.weekday_name.ensures ∙ ap weekday_name (e.weekday.ensures ∙ (λ i. weekday_of (e.year_at.ensures i) (e.day_at.ensures i))) in
    let word : e.kind_word.result.now ≡ kind_word (kind_code e.args.kind) = e.kind_word.ensures in
    let short : length e.weekday_name.result.now ≤ 9 = rw name (weekday_short _) in
    let line =
    lined e.args.b.now short (rw word (word_short _)) refl refl e.add.ensures e.add-2.ensures e.add-3.ensures e.add-4.ensures e.add-5.ensures e.add-6.ensures in
    (_, refl, refl, rw (name, word) at line)

pub slice_bounds-made-end : goal.slice_bounds-made-end
slice_bounds-made-end c =
    let w = written (goal.at.slice_bounds-made-end c).After-add-6 in
    omega (arith, w.1, w.2, w.3.wrote.end, w.3.wrote.room)

pub slice_bounds-add_bytes-end : goal.slice_bounds-add_bytes-end
slice_bounds-add_bytes-end c =
    let w = written (goal.at.slice_bounds-add_bytes-end c).After-add-6 in
    sym (length-take-le _ _ (omega (arith, w.1, w.2, w.3.wrote.end, w.3.wrote.room)))

pub returns : goal.returns
returns c =
    let w = written (goal.at.returns c).After-add-6 in
    copied c.add_bytes.ensures w.3 w.1 (search rules)
