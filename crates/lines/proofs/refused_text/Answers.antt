-- `lines::refused_text` meets its contract: the line is written where it fits, and else nothing is.
-- Assumes nothing.
use mathlib.Core.Path.{sym, ◌∙◌}
use Prim.Native.Nat.{◌-◌}
use native.Mathlib.Omega.{arith}
use borrow.Author.Tests.{leb-true, leb-false}
use borrow.Author.Rules.{rules}
use lib.ListN.{length}
use Rattle.lines.specs.Figures.{figures_line}
use Rattle.texts.proofs.Text.{short}
use Rattle.texts.proofs.Writing.{wrote_as, then, fitted, done}
use Rattle.lines.proofs.Figures.{refused_is, refused_long}
use Rattle.lines.proofs.refused_text.Goals as goal

pub returns-then-room-lt-REFUSED_SIZE : goal.returns-then-room-lt-REFUSED_SIZE
returns-then-room-lt-REFUSED_SIZE c = short _ _ _ (omega (arith, refused_long c.args.figures.now))

pub returns-then-not-figures_fit : goal.returns-then-not-figures_fit
returns-then-not-figures_fit c =
    let a = c.args in
    let told = sym c.figures_fit.ensures ∙ c.if-not-figures_fit.true in
    short _ _ _ (omega (arith, refused_long a.figures.now, leb-false (length (figures_line a.figures.now)) (length a.buf.now - 8) told))

pub add_figures-requires : goal.add_figures-requires
add_figures-requires c =
    let a = c.args in
    let told = sym c.figures_fit.ensures ∙ c.if-not-figures_fit.false in
    let mark = fitted c.add.ensures (omega arith) in
    omega (arith, leb-true (length (figures_line a.figures.now)) (length a.buf.now - 8) told, mark.wrote.end, mark.wrote.same)

pub returns : goal.returns
returns c = done (wrote_as (refused_is _) (then (fitted c.add.ensures (omega arith)) c.add_figures.ensures)) (search rules)
