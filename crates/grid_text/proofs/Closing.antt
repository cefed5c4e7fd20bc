-- Closing refuses with a number alone, or 0 has the sheet's bytes as its figures: the lines of either.
-- Assumes nothing.
use mathlib.Core.Path.{◌≡◌, refl, sym, ap, ◌∙◌}
use mathlib.Core.Bool.{Bool, true, false, cond, not}
use mathlib.Core.List.{List, [], ◌∷◌}
use Prim.Native.Nat.{ℕ}
use native.Mathlib.Omega.{arith}
use borrow.Author.Tests.{eq-eqb, ne_eqb, ltb-true, ltb-false}
use lib.Dec.{ltb, eqb}
use Rattle.answers.specs.Ruling.{lacks_year, level_out}
use Rattle.answers.specs.Said.{Said, only}
use Rattle.periods.specs.Period.{period_days}
use Rattle.readings.specs.Legal.{highest_of}
use Rattle.answers.proofs.Laws.{has_year, level_of}
use Rattle.sheet.specs.Windows.{too_full, LegalSheet}
use Rattle.sheet.specs.Bytes.{sheet_size, sheet_bytes}
use Rattle.sheet.specs.Answers.{ReadSaid, read_answer, read_sheet, write_answer}
use Rattle.sheet.proofs.Windows.{roomy, length_flat}
use Rattle.sheet.proofs.Answered.{write_taken, write_accepted}
use Rattle.sheet.proofs.Back.{read_written}
use Rattle.windows.proofs.Kept.{chosen_roomy}
use Rattle.std.proofs.lemmas.List.{append-nil}
use Rattle.grid_days.specs.declared.Grid.{Grid}
use Rattle.std.specs.Prelude.{Result, Ok, Err, ⊤, is_err}
use Rattle.grid.specs.declared.GridRefusal.{GridRefusal}
use Rattle.grid.specs.declared.GridRefusal.TheVariants.{Short, YearOut, LevelOut, WrongLength, BadReading, NoPeak, Malformed, DayOut}
use Rattle.grid.specs.Answers.{said_of_grid, sheet_of, curves_of, finish_answer}
use Rattle.grid.proofs.Answered.{finish_sheet}
use Rattle.grid_days.specs.Rows.{CloseRow}
use Rattle.grid_days.specs.Rows.CloseRow.{zero}
use Rattle.grid_days.proofs.Exactly.{close_exactly}
use Rattle.grid_days.proofs.Steps.{close_finish}
use Rattle.grid_days.specs.Days.{grid_close_answer, grid_close_buffer}
use Rattle.lines.specs.Figures.{refused_line}
use Rattle.grid_file.specs.Grid.{blank_sheet}
use Rattle.grid_file.specs.GridMachine.{closed_grid}
use Rattle.grid_text.specs.Text.{sheet_text, window_lines}

-- a refusal has a number of its own, and what is done has 0
numbered : (r : Result ⊤ GridRefusal) → ltb 0 (said_of_grid r).number ≡ is_err r
numbered (Ok done) = refl
numbered (Err Short) = refl
numbered (Err YearOut) = refl
numbered (Err LevelOut) = refl
numbered (Err WrongLength) = refl
numbered (Err (BadReading place)) = refl
numbered (Err NoPeak) = refl
numbered (Err Malformed) = refl
numbered (Err DayOut) = refl

pub refused_some : (r : Result ⊤ GridRefusal) → is_err r ≡ true → (said_of_grid r).number ≡ 0 → ⊥
refused_some r e z = omega (arith, ltb-true 0 (said_of_grid r).number (numbered r ∙ e), z)

pub taken_none : (r : Result ⊤ GridRefusal) → is_err r ≡ false → (said_of_grid r).number ≡ 0
taken_none r e = omega (arith, ltb-false 0 (said_of_grid r).number (numbered r ∙ e))

-- an answer without figures
abbrev Only : Said → Type 0
Only x = only x.number ≡ x

only_of : (b : Bool) (x y : Said) → Only x → Only y → Only (cond b x y)
only_of true x y h k = h
only_of false x y h k = k

close_only : (g : Grid) (room : ℕ) → Only (grid_close_answer g room)
unfolding grid_close_answer finish_answer write_answer
close_only g room =
    let s = sheet_of g.edition g.year g.level g.curves in
    only_of (ltb room sheet_size) (only 14) _ refl
    (only_of (not (eqb g.seen (period_days g.year))) (only 13) _ refl
    (only_of (eqb (highest_of g.curves) 0) (only 7) _ refl
    (only_of (ltb room sheet_size) (only 14) _ refl
    (only_of (lacks_year g.edition s.year) (only 1) _ refl
    (only_of (level_out s.level) (only 2) _ refl
    (only_of (too_full g.edition s.windows) (only 12) (only 0) refl refl))))))

module _ (g : Grid) where
  abbrev said : Said
  said = grid_close_answer g sheet_size

  pub closed_refused : {n : ℕ} → n ≡ said.number → (n ≡ 0 → ⊥) → refused_line (n ∷ []) ≡ window_lines g.edition (closed_grid g)
  unfolding window_lines
  closed_refused {n} e z =
      let bare : only n ≡ said = ap only e ∙ close_only g sheet_size in
      simp (← bare, ne_eqb n 0 z)

  pub closed_done : said.number ≡ 0 → sheet_text (read_sheet g.edition (grid_close_buffer g blank_sheet)) ≡ window_lines g.edition (closed_grid g)
  unfolding window_lines
  closed_done z = simp (eq-eqb said.number 0 z)

  -- and closing left a sheet that can be read
  pub closed_reads : said.number ≡ 0 → (read_answer g.edition (grid_close_buffer g blank_sheet)).number ≡ 0
  unfolding sheet_of
  closed_reads z = go ((close_exactly g blank_sheet 0).0 z)
    where
      go : CloseRow g sheet_size 0 → (read_answer g.edition (grid_close_buffer g blank_sheet)).number ≡ 0
      go (zero c p y l) =
          let s = sheet_of g.edition g.year g.level g.curves in
          let room = chosen_roomy g.edition (highest_of g.curves) (curves_of g.curves) in
          let taken = write_taken g.edition s blank_sheet _
          (write_accepted g.edition s sheet_size (omega arith) ((has_year _ _).1 y) ((level_of _).1 l) ((roomy _ _).1 room)) refl in
          let left = close_finish g blank_sheet (omega arith) c.full
          (finish_sheet g.edition g.year g.level g.curves blank_sheet (λ e. omega arith) taken.0 taken.1) in
          let legal : LegalSheet g.edition s = record { long = length_flat _; year = y; level = l; room = room } in
          ap (λ (b : List ℕ). (read_answer g.edition b).number) (sym left.1 ∙ append-nil (sheet_bytes s))
          ∙ ap (λ (r : ReadSaid). r.answer.number) (read_written g.edition s legal)
