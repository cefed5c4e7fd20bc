-- `lines::field_len` meets its contract, a law for each case.
-- Assumes nothing.
use mathlib.Core.Path.{ap, ◌∙◌}
use native.Mathlib.Omega.{arith}
use lib.ListN.{length}
use Rattle.lines.proofs.Figures.{field_first, field_next}
use Rattle.lines.proofs.field_len.Goals as goal

pub returns-then-i-eq0 : goal.returns-then-i-eq0
returns-then-i-eq0 c = c.number_len-n.ensures.0 ∙ ap length (field_first _ _ c.if-i-eq0.true)

pub returns-else-i-eq0 : goal.returns-else-i-eq0
returns-else-i-eq0 c =
    let a = c.args in
    omega (arith, c.number_len-n.ensures.0, ap length (field_next a.i a.x c.if-i-eq0.false))
