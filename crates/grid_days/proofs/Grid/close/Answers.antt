-- `grid_days::Grid::close` meets its contract, a law for each return.
-- Assumes nothing.
use native.Mathlib.Omega.{arith}
use Rattle.grid_days.proofs.Steps.{close_short, close_early, close_finish}
use Rattle.grid_days.proofs.Grid.close.Goals as goal

pub returns-then-out-lt-SHEET_SIZE : goal.returns-then-out-lt-SHEET_SIZE
returns-then-out-lt-SHEET_SIZE c =
    let a = c.args in
    close_short a.self a.out.now (omega arith)

pub returns-then-self-period_days : goal.returns-then-self-period_days
returns-then-self-period_days c =
    let a = c.args in
    close_early a.self a.out.now (omega arith) (λ e. omega arith)

pub returns : goal.returns
returns c =
    let a = c.args in
    close_finish a.self a.out.now (omega arith) (omega arith) c.finish.ensures
