-- `grid::finish_by` meets its contract, a law for each return.
-- Assumes nothing.
use mathlib.Core.Path.{◌≡◌, ap, ◌∙◌}
use Prim.Native.Nat.{ℕ}
use native.Mathlib.Omega.{arith}
use lib.ListN.{length}
use mathlib.Core.List.{List}
use Rattle.std.proofs.lemmas.Result.{err_from_is_err_and}
use Rattle.answers.specs.Said.{Said}
use Rattle.readings.specs.Legal.{highest_of}
use Rattle.sheet.specs.Answers.{write_answer, written}
use Rattle.sheet.specs.declared.Sheet.{Sheet}
use Rattle.sheet.specs.Windows.{flat_windows}
use Rattle.windows.specs.Chosen.{chosen_of}
use Rattle.grid.specs.Answers.{curves_of, sheet_of, finish_answer, finished}
use Rattle.grid.proofs.Answered.{finish_none, finish_sheet}
use Rattle.grid.proofs.finish_by.Goals.{After-write_by}
use Rattle.grid.proofs.finish_by.Goals as goal

-- the sheet that is written is that of the curves, so what writing says is said
ended :
    (e : After-write_by) (flat : List ℕ) {said : Said}
    → let a = e.args in
    a.curves.now ≡ curves_of flat
    → a.peak ≡ highest_of flat
    → said ≡ write_answer a.edition (record { year = a.year; level = a.level; windows = e.flat_windows-windows.result }) (length a.out.now)
    → (said ≡ finish_answer a.edition a.year a.level flat (length a.out.now)) × (e.write_by.new.out ≡ finished a.edition a.year a.level flat a.out.now)
unfolding sheet_of
ended e flat is high says =
    let a = e.args in
    let rows = e.chosen.ensures ∙ ap (chosen_of a.edition a.peak) is ∙ ap (λ (k : ℕ). chosen_of a.edition k (curves_of flat)) high in
    let quarters = e.flat_windows-windows.ensures ∙ ap flat_windows rows in
    let same : ◌≡◌ {A = Sheet} (record { year = a.year; level = a.level; windows = e.flat_windows-windows.result })
    (sheet_of a.edition a.year a.level flat) = λ i. record { year = a.year; level = a.level; windows = quarters i } in
    finish_sheet a.edition a.year a.level flat a.out.now (omega arith)
    (says ∙ ap (λ (x : Sheet). write_answer a.edition x (length a.out.now)) same)
    (e.write_by.ensures.1 ∙ ap (λ (x : Sheet). written a.edition x a.out.now) same)

pub returns : goal.returns
returns c flat is high = ended (goal.at.returns c).After-write_by flat is high c.in_ok-write_by.ensures.0

pub returns-in_err-write_by : goal.returns-in_err-write_by
returns-in_err-write_by c flat is high =
    let p = err_from_is_err_and c.from_residual.result c.from_residual.ensures.1 in
    rw p.1 (ended (goal.at.returns-in_err-write_by c).After-write_by flat is high (p.2 ∙ c.in_err-write_by.ensures.0))

pub returns-then-peak-eq0 : goal.returns-then-peak-eq0
returns-then-peak-eq0 c flat is high = finish_none _ _ _ _ _ (omega arith)
