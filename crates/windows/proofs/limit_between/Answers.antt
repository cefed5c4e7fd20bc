use mathlib.Core.Path.{◌≡◌}
use Prim.Native.Nat.{◌-◌}
use native.Mathlib.Omega.{arith}
use Rattle.windows.proofs.limit_between.Goals as goal

pub returns : goal.returns
returns c =
    let loop = c.loop-limits in
    let next : loop.limits.high - 1 ≡ loop.limits.low = omega arith in
    (omega arith, rw next loop.invariant.2)
