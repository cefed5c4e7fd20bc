-- `lines::figures_text` meets its contract: the line is written where it fits, and else nothing is.
-- Assumes nothing.
use mathlib.Core.Path.{sym, ◌∙◌}
use native.Mathlib.Omega.{arith}
use borrow.Author.Tests.{leb-true, leb-false}
use lib.ListN.{length}
use Rattle.lines.specs.Figures.{figures_line}
use Rattle.texts.proofs.Text.{short}
use Rattle.texts.proofs.Writing.{done}
use borrow.Author.Rules.{rules}
use Rattle.lines.proofs.figures_text.Goals as goal

pub returns-then-not-figures_fit : goal.returns-then-not-figures_fit
returns-then-not-figures_fit c =
    let a = c.args in
    let told = sym c.figures_fit.ensures ∙ c.if-not-figures_fit.true in
    short _ _ _ (omega (arith, leb-false (length (figures_line a.figures.now)) (length a.buf.now) told))

pub add_figures-requires : goal.add_figures-requires
add_figures-requires c =
    let a = c.args in
    let told = sym c.figures_fit.ensures ∙ c.if-not-figures_fit.false in
    omega (arith, leb-true (length (figures_line a.figures.now)) (length a.buf.now) told)

pub returns : goal.returns
returns c = done c.add_figures.ensures (search rules)
