-- `customer_head::holiday_before` meets its contract, a law for each return.
-- Assumes nothing.
use mathlib.Core.Path.{◌∙◌}
use native.Mathlib.Omega.{arith}
use Rattle.customer_head.proofs.CustomerLayout.{before_is}
use Rattle.customer_head.proofs.holiday_before.Goals as goal

pub returns : goal.returns
returns c =
    let a = c.args in
    c.two_at.ensures ∙ before_is a.head.now a.j (omega arith) (omega arith)
