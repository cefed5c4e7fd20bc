-- `windows::nearer` meets its contract: where just `most` are higher than the middle, no fewer
-- are higher than the value before it.
-- Assumes nothing.
use Prim.Native.Nat.{◌+◌, ◌-◌, ◌/◌}
use native.Mathlib.Omega.{arith}
use Rattle.windows.proofs.Cutting.{fewer}
use Rattle.windows.proofs.nearer.Goals as goal

pub returns : goal.returns
returns c =
    let a = c.args in
    let middle = a.between.low + (a.between.high - a.between.low) / 2 in
    let more = fewer a.curve.now {low = middle - 1} {high = middle} (omega arith) in
    (omega arith, omega arith, omega arith, (omega arith, omega arith))
