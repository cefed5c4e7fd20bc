-- The cases of opening, of a day and of closing, each with the code's answer and the next state or the buffer's bytes
-- on the left.
-- Assumes nothing.
use mathlib.Core.Path.{◌≡◌, refl, sym, ap, ◌∙◌}
use mathlib.Core.Bool.{true, false}
use mathlib.Core.List.{List}
use Prim.Native.Nat.{ℕ, ◌≤◌, ◌<◌}
use borrow.Author.Tests.{lt-ltb, le-ltb, eq-eqb, ne_eqb}
use lib.Dec.{eqb}
use lib.ListN.{length}
use Rattle.answers.specs.declared.Edition.{Edition}
use Rattle.answers.specs.Ruling.{grid_most}
use Rattle.answers.specs.Said.{Said, only, after}
use Rattle.answers.proofs.Laws.{refusal_keeps, done_hands}
use Rattle.periods.specs.Period.{period_days}
use Rattle.readings.specs.declared.Run.TheVariants.{Period}
use Rattle.readings.specs.Runs.{run_days}
use Rattle.readings.specs.Days.{next_answer}
use Rattle.readings.specs.Rows.{NextRow}
use Rattle.readings.specs.Rows.NextRow.{zero}
use Rattle.readings.proofs.Runs.{period_run}
use Rattle.readings.proofs.Days.{next_exactly}
use Rattle.sheet.specs.Bytes.{sheet_size}
use Rattle.grid_curves.specs.Curves.{merged}
use Rattle.grid_days.specs.declared.Grid.{Grid}
use Rattle.std.specs.Prelude.{Result, Ok, Err, is_ok, ⊤}
use Rattle.ranges.proofs.Bools.{clash}
use Rattle.grid.specs.declared.GridRefusal.{GridRefusal}
use Rattle.grid.specs.Answers.{said_of_grid, finish_answer, finished, grid_open_answer}
use Rattle.grid_days.specs.Days.{fresh_grid, shut_grid, open_grid, grid_day_answer, grid_taken, day_grid, day_curves, grid_close_answer, grid_close_buffer}
use Rattle.grid.proofs.Answered.{refuses, finished_again}

-- what is not refused is 0, and no refusal is
pub answered : (r : Result ⊤ GridRefusal) → is_ok r ≡ true → only 0 ≡ said_of_grid r
answered (Ok done) e = refl
answered (Err refusal) e = absurd (clash e refl)

pub refused : (r : Result ⊤ GridRefusal) → is_ok r ≡ false → eqb (said_of_grid r).number 0 ≡ false
refused (Ok done) e = absurd (clash refl e)
refused (Err refusal) e = refuses refusal

-- opening
module _ (ed : Edition) (y level : ℕ) (r : Result ⊤ GridRefusal) (said : said_of_grid r ≡ grid_open_answer ed y level) where
  pub opened_shut : is_ok r ≡ false → shut_grid ≡ open_grid ed y level
  opened_shut e = (refusal_keeps _ (fresh_grid ed y level) shut_grid said (refused r e)).1

  pub opened_fresh : is_ok r ≡ true → fresh_grid ed y level ≡ open_grid ed y level
  opened_fresh e = (done_hands (only 0) (fresh_grid ed y level) shut_grid (answered r e ∙ said) refl).1

-- a day that is taken is one of the period's
pub day_left : (y seen : ℕ) (day : List ℕ) → only 0 ≡ next_answer (Period y) grid_most seen day → seen < period_days y
day_left y seen day e = rw period_run at (left_of ((next_exactly (Period y) grid_most seen day 0).0 (sym (ap (λ (a : Said). a.number) e))))
  where
    left_of : NextRow (Period y) grid_most seen day 0 → seen < run_days (Period y)
    left_of (zero d h) = d.left

-- a day over lent curves
module _ (y : ℕ) (flat : List ℕ) (seen : ℕ) (day : List ℕ) where
  abbrev next : Said
  next = next_answer (Period y) grid_most seen day

  pub curves_refused : (a : Said) → eqb a.number 0 ≡ false → a ≡ next → (a ≡ next) × (flat ≡ day_curves y flat seen day)
  unfolding day_curves
  curves_refused a z e = refusal_keeps a (merged y flat seen day) flat e z

  pub curves_taken : {out : List ℕ} → only 0 ≡ next → out ≡ merged y flat seen day → (only 0 ≡ next) × (out ≡ day_curves y flat seen day)
  unfolding day_curves
  curves_taken z e = (z, e ∙ (done_hands (only 0) (merged y flat seen day) flat z refl).1)

-- a day
module _ (g : Grid) (day : List ℕ) where
  -- a refusal keeps the state
  pub day_refused : (a : Said) → eqb a.number 0 ≡ false → a ≡ grid_day_answer g day → (a ≡ grid_day_answer g day) × (g ≡ day_grid g day)
  unfolding day_grid
  day_refused a z e = refusal_keeps a _ g e z

  pub day_taken_law : {next : Grid} → only 0 ≡ grid_day_answer g day → next ≡ grid_taken g day → (only 0 ≡ grid_day_answer g day) × (next ≡ day_grid g day)
  unfolding day_grid
  day_taken_law z e = (z, e ∙ (done_hands (only 0) (grid_taken g day) g z refl).1)

-- closing
module _ (g : Grid) (out : List ℕ) where
  close_refused :
      (a : Said)
      → eqb a.number 0 ≡ false
      → a ≡ grid_close_answer g (length out)
      → (a ≡ grid_close_answer g (length out)) × (out ≡ grid_close_buffer g out)
  unfolding grid_close_buffer
  close_refused a z e = refusal_keeps a (finished g.edition g.year g.level g.curves out) out e z

  pub close_short : length out < sheet_size → (only 14 ≡ grid_close_answer g (length out)) × (out ≡ grid_close_buffer g out)
  unfolding grid_close_answer
  close_short h = close_refused (only 14) refl (simp (lt-ltb _ _ h))

  module _ (h : sheet_size ≤ length out) where
    pub close_early : (g.seen ≡ period_days g.year → ⊥) → (only 13 ≡ grid_close_answer g (length out)) × (out ≡ grid_close_buffer g out)
    unfolding grid_close_answer
    close_early n = close_refused (only 13) refl (simp (le-ltb _ _ h, ne_eqb _ _ n))

    pub close_finish :
        {s : Said} {next : List ℕ}
        → g.seen ≡ period_days g.year
        → (s ≡ finish_answer g.edition g.year g.level g.curves (length out)) × (next ≡ finished g.edition g.year g.level g.curves out)
        → (s ≡ grid_close_answer g (length out)) × (next ≡ grid_close_buffer g out)
    unfolding grid_close_answer grid_close_buffer
    close_finish e f =
        let same : finish_answer g.edition g.year g.level g.curves (length out) ≡ grid_close_answer g (length out) =
        simp (le-ltb _ _ h, eq-eqb _ _ e) in (
          f.0 ∙ same,
          f.1 ∙ sym (finished_again g.edition g.year g.level g.curves out)
              ∙ ap (λ (x : Said). after x (finished g.edition g.year g.level g.curves out) out) same,
        )
