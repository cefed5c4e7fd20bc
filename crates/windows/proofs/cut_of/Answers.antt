-- `windows::cut_of` meets its contract: a cut at the highest value where the line is higher than 32 bits hold, at the
-- line where few are above it, else at a limit between the line and the highest value.
-- Assumes nothing.
use mathlib.Core.Path.{ap, ◌∙◌}
use native.Mathlib.Omega.{arith}
use Rattle.windows.specs.Cuts.{higher_than}
use Rattle.windows.proofs.Cutting.{none_over, under_highest, at_top, at_line, at_limit}
use Rattle.windows.proofs.cut_of.Goals as goal

pub returns-in_default : goal.returns-in_default
returns-in_default c =
    let a = c.args in
    rw (c.above.ensures.0, c.above.ensures.1, c.highest.ensures)
    (at_top a.curve.now a.edition a.peak (omega (arith, c.in_default.ensures, c.highest.ensures)))

pub returns-then-count_above-most : goal.returns-then-count_above-most
returns-then-count_above-most c =
    let a = c.args in
    rw (c.above-then-count_above-most.ensures.0, c.above-then-count_above-most.ensures.1)
    (at_line a.curve.now a.edition a.peak (c.in-Ok.ensures.1 ∙ c.line_of.ensures) (omega (arith, c.from-most.ensures)))

pub limit_between-limit-requires : goal.limit_between-limit-requires
limit_between-limit-requires c =
    let curve = c.args.curve.now in
    let under = under_highest curve {limit = c.in-Ok.line} (omega arith) in
    (omega arith, (omega arith, omega (arith, none_over curve, ap (higher_than curve) c.highest-2.ensures)))

pub returns : goal.returns
returns c =
    let cut = c.limit_between-limit in
    at_limit _ _ _ cut.result (omega (arith, c.in-Ok.ensures)) (rw c.from-most.ensures at cut.ensures.1) (omega (arith, c.from-most.ensures))
