-- `day_text::year_at` meets its contract: the first two digits stand at place `at` itself.
-- Assumes nothing.
use mathlib.Core.Path.{◌≡◌, ap, ◌∙◌}
use Prim.Native.Nat.{◌+◌}
use native.Mathlib.Omega.{arith}
use Rattle.day_text.specs.Asked.{two_digits}
use Rattle.day_text.proofs.year_at.Goals as goal

pub returns : goal.returns
returns c =
    let a = c.args in
    let e : a.at + 0 ≡ a.at = omega arith in
    let high = c.two_digits.ensures.0 ∙ ap (two_digits a.b.now) e in
    omega (arith, high, c.two_digits-2.ensures.0)
