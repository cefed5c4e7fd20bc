-- Each number of closing is given exactly when its row holds and no number before it is given.
-- Assumes nothing.
use mathlib.Core.Path.{◌≡◌, refl}
use mathlib.Core.Logic.{◌↔◌, ⊎_elim}
use mathlib.Core.List.{List}
use Prim.Native.Nat.{ℕ, ◌≤◌, ◌<◌}
use native.Mathlib.Decide.{dec_lt, ℕ_discrete}
use native.Mathlib.Omega.{arith}
use lib.ListN.{length}
use Rattle.ranges.proofs.Bools.{decided, refutes}
use Rattle.answers.specs.Ruling.{lacks_year, level_out}
use Rattle.answers.specs.Said.{Said}
use Rattle.answers.proofs.Laws.{has_year, level_of}
use Rattle.periods.specs.Period.{period_days}
use Rattle.readings.specs.Legal.{highest_of}
use Rattle.sheet.specs.Bytes.{sheet_size}
use Rattle.grid.specs.Answers.{finish_answer, finished}
use Rattle.grid.proofs.Answered.{finish_none}
use Rattle.grid.proofs.Exactly.{finish_year, finish_level, finish_done}
use Rattle.grid_days.specs.declared.Grid.{Grid}
use Rattle.grid_days.specs.Days.{grid_close_answer}
use Rattle.grid_days.specs.Rows.{Closes, CloseRow}
use Rattle.grid_days.specs.Rows.CloseRow.{fourteen, early, seven, one, two, zero}
use Rattle.grid_days.proofs.Steps.{close_short, close_early, close_finish}

module _ (g : Grid) (out : List ℕ) where
  -- what finishing answers is answered
  finishes :
      Closes g (length out)
      → {a : Said}
      → a ≡ finish_answer g.edition g.year g.level g.curves (length out)
      → a ≡ grid_close_answer g (length out)
  finishes c e = (close_finish g out c.enough {next = finished g.edition g.year g.level g.curves out} c.full (e, refl)).0

  full_holds : Closes g (length out) → CloseRow g (length out) (grid_close_answer g (length out)).number
  full_holds c = go (dec_lt 0 (highest_of g.curves))
    where
      go : Dec (0 < highest_of g.curves) → CloseRow g (length out) (grid_close_answer g (length out)).number
      go (no m) =
          let z : highest_of g.curves ≡ 0 = omega arith in
          rw (← finishes c (finish_none g.edition g.year g.level g.curves out z).0) (seven c z)
      go (yes m) =
          ⊎_elim (λ p. rw (← finishes c (finish_year _ _ _ _ out c.enough m p)) (one c m ((refutes _ (has_year _ _)).0 p))) (λ a.
          ⊎_elim (λ p. rw (← finishes c (finish_level _ _ _ _ out c.enough m a p)) (two c m ((has_year _ _).0 a) ((refutes _ (level_of _)).0 p)))
          (λ b. rw (← finishes c (finish_done _ _ _ _ out c.enough m a b)) (zero c m ((has_year _ _).0 a) ((level_of _).0 b)))
          (decided (level_out g.level))) (decided (lacks_year g.edition g.year))

  close_holds : CloseRow g (length out) (grid_close_answer g (length out)).number
  close_holds = go (dec_lt (length out) sheet_size) (ℕ_discrete g.seen (period_days g.year))
    where
      go : Dec (length out < sheet_size) → Dec (g.seen ≡ period_days g.year) → CloseRow g (length out) (grid_close_answer g (length out)).number
      go (yes h) f = rw (← (close_short g out h).0) (fourteen h)
      go (no h) (no f) =
          let e : sheet_size ≤ length out = omega arith in
          rw (← (close_early g out e f).0) (early e f)
      go (no h) (yes f) = full_holds (record { enough = omega arith; full = f })

  close_given : {n : ℕ} → CloseRow g (length out) n → (grid_close_answer g (length out)).number ≡ n
  close_given (fourteen h) = rw (← (close_short g out h).0)
  close_given (early h f) = rw (← (close_early g out h f).0)
  close_given (seven c z) = rw (← finishes c (finish_none g.edition g.year g.level g.curves out z).0)
  close_given (one c m a) = rw (← finishes c (finish_year _ _ _ _ out c.enough m ((refutes _ (has_year _ _)).1 a)))
  close_given (two c m a b) = rw (← finishes c (finish_level _ _ _ _ out c.enough m ((has_year _ _).1 a) ((refutes _ (level_of _)).1 b)))
  close_given (zero c m a b) = rw (← finishes c (finish_done _ _ _ _ out c.enough m ((has_year _ _).1 a) ((level_of _).1 b)))

  pub close_exactly : (n : ℕ) → ((grid_close_answer g (length out)).number ≡ n) ↔ CloseRow g (length out) n
  close_exactly n = (λ e. rw e at close_holds, close_given)
