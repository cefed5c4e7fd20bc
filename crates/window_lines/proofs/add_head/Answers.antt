-- `window_lines::add_head` meets its contract: the line of the two figures fits into its array, and is written after
-- the mark.
-- Assumes nothing.
use mathlib.Core.Path.{◌≡◌, sym, ap, ◌∙◌}
use mathlib.Core.List.{[], ◌∷◌, ◌++◌}
use Prim.Native.Nat.{◌≤◌}
use native.Mathlib.Omega.{arith}
use lib.ListN.{length, take}
use lib.Seq.{length-take-le}
use Rattle.lines.specs.Figures.{figures_line}
use Rattle.texts.proofs.Text as flat
use Rattle.texts.proofs.Writing.{wrote_as, then_put, fitted}
use Rattle.window_lines.specs.Runs.{head_mark}
use Rattle.window_lines.proofs.Runs.{head_is, head_long, head_short}
use Rattle.window_lines.proofs.add_head.Goals.{After-figures_text-n}
use Rattle.window_lines.proofs.add_head.Goals as goal

-- the first bytes of the array are the line
line :
    (e : After-figures_text-n)
    → let a = e.args in
    (take e.figures_text-n.result e.figures_text-n.new.buf ≡ figures_line (a.year ∷ a.level ∷ []))
    × (e.figures_text-n.result ≤ length e.figures_text-n.new.buf)
line e =
    let a = e.args in
    let put = flat.put_as (λ i. figures_line (e.from.ensures i ∷ e.from-2.ensures i ∷ [])) e.figures_text-n.ensures in
    let w = flat.fitted put (omega (arith, head_long a.year a.level, head_short a.year a.level)) in
    (flat.taken w, omega (arith, w.end, w.room, w.same))

pub slice_bounds-line-end : goal.slice_bounds-line-end
slice_bounds-line-end c = (line (goal.at.slice_bounds-line-end c).After-figures_text-n).1

pub slice_bounds-add-end-2 : goal.slice_bounds-add-end-2
slice_bounds-add-end-2 c = sym (length-take-le _ _ (line (goal.at.slice_bounds-add-end-2 c).After-figures_text-n).1)

pub returns : goal.returns
returns c =
    let a = c.args in
    let is = (line (goal.at.returns c).After-figures_text-n).0 in
    let long = head_long a.year a.level in
    let mark = fitted c.add.ensures (omega (arith, c.requires, long)) in
    wrote_as (ap (λ t. head_mark ++ t) is ∙ head_is a.year a.level) (then_put mark c.add-2.ensures (omega (arith, c.requires, long, ap length is)))
