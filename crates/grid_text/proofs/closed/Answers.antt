-- `grid_text::closed` meets its contract: the sheet that closing writes is read back.
-- Assumes nothing.
use mathlib.Core.Path.{◌≡◌, sym, ap, ◌∙◌}
use mathlib.Core.List.{List}
use Prim.Native.Nat.{ℕ}
use Rattle.answers.specs.Said.{Said}
use Rattle.grid.specs.Answers.{said_of_grid}
use Rattle.sheet.specs.Bytes.{sheet_size}
use Rattle.sheet.specs.Answers.{ReadSaid, shown_of, read_answer, read_sheet}
use Rattle.sheet.proofs.Exactly.{read_is_ok}
use Rattle.grid_days.specs.declared.Grid.{Grid}
use Rattle.grid_days.specs.Days.{grid_close_answer}
use Rattle.answer_numbers.specs.declared.Numbers.{Numbers}
use Rattle.texts.proofs.Text.{put_as}
use Rattle.grid_text.specs.Text.{sheet_text}
use Rattle.grid_text.proofs.Closing.{refused_some, taken_none, closed_refused, closed_done, closed_reads}
use Rattle.grid_text.proofs.closed.Goals.{After-close-done}
use Rattle.grid_text.proofs.closed.Goals as goal

-- once the series is closed: the series, and its number
abbrev series : After-close-done → Grid
series e = e.args.grid

number : (e : After-close-done) → (said_of_grid e.close-done.result).number ≡ (grid_close_answer (series e) sheet_size).number
number e = ap (λ (x : Said). x.number) e.close-done.ensures.0

pub returns-then-is_err : goal.returns-then-is_err
returns-then-is_err c =
    let e = (goal.at.returns-then-is_err c).After-close-done in
    let n = ap (λ (f : Numbers). f.number) c.of_answer.ensures in
    let some = refused_some _ (sym c.is_err.ensures.value ∙ c.if-is_err.true) in
    put_as (closed_refused (series e) (n ∙ number e) (λ z. some (sym n ∙ z))) c.refused.ensures

pub unwrap-meaning-requires : goal.unwrap-meaning-requires
unwrap-meaning-requires c =
    let e = (goal.at.unwrap-meaning-requires c).After-close-done in
    let left = ap (λ (b : List ℕ). (read_answer (series e).edition b).number) c.close-done.ensures.1 in
    let none = taken_none _ (sym c.is_err.ensures.value ∙ c.if-is_err.false) in
    read_is_ok _ (ap (λ (r : ReadSaid). r.answer.number) c.read_by.ensures ∙ left ∙ closed_reads (series e) (sym (number e) ∙ none))

pub returns : goal.returns
returns c =
    let e = (goal.at.returns c).After-close-done in
    let read = ap shown_of (sym c.unwrap-meaning.ensures) ∙ c.read_by.ensures in
    let sheet = ap (λ (r : ReadSaid). r.sheet) read ∙ ap (read_sheet (series e).edition) c.close-done.ensures.1 in
    let none = taken_none _ (sym c.is_err.ensures.value ∙ c.if-is_err.false) in
    put_as (ap sheet_text sheet ∙ closed_done (series e) (sym (number e) ∙ none)) c.windows_text.ensures
