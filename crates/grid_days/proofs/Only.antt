-- Nothing else meets the promises of this crate, and what the state of a refused opening answers.
-- Assumes nothing.
use mathlib.Core.Path.{◌≡◌, sym}
use mathlib.Core.List.{List}
use Prim.Native.Nat.{ℕ, ◌≤◌}
use native.Mathlib.Omega.{arith}
use lib.ListN.{length}
use Rattle.answers.specs.Ruling.{grid_most}
use Rattle.answers.specs.Said.{Said, only}
use Rattle.periods.proofs.Periods.{period_most}
use Rattle.readings.specs.declared.Run.TheVariants.{Period}
use Rattle.readings.specs.Days.{shut_days}
use Rattle.readings.proofs.Runs.{period_run}
use Rattle.readings.proofs.Days.{next_out}
use Rattle.sheet.specs.Bytes.{sheet_size}
use Rattle.grid.specs.Answers.{said_of_grid}
use Rattle.grid.proofs.Only.{grid_only}
use Rattle.grid_days.specs.declared.Stepped.{Stepped}
use Rattle.grid_days.specs.declared.Grid.{Grid}
use Rattle.grid_days.specs.Days.{shut_grid, grid_day_answer, grid_close_answer}
use Rattle.grid_days.proofs.Steps.{close_early}

-- an answer with the state beside it: `open` and `day`
pub step_only :
    {x : Said} {g : Grid} {r s : Stepped}
    → (said_of_grid r.answer ≡ x) × (r.grid ≡ g)
    → (said_of_grid s.answer ≡ x) × (s.grid ≡ g)
    → r ≡ s
step_only p q =
    let e = grid_only p q in
    λ i. record { answer = e.0 i; grid = e.1 i }

-- the state of a refused opening takes no day and never closes
pub shut_day : (day : List ℕ) → grid_day_answer shut_grid day ≡ only 13
shut_day day = sym (next_out (Period 0) grid_most shut_days day (omega (arith, period_run 0, period_most 0)))

pub shut_close : (out : List ℕ) → sheet_size ≤ length out → grid_close_answer shut_grid (length out) ≡ only 13
shut_close out h = sym (close_early shut_grid out h (λ e. omega (arith, period_most 0))).0
