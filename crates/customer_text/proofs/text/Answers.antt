-- `customer_text::text` meets its contract.
-- Assumes nothing.
use mathlib.Core.Path.{◌≡◌, sym, ap}
use native.Mathlib.Omega.{arith}
use lib.ListN.{length}
use lib.Seq.{length-take-le}
use Rattle.lines.specs.Figures.{figures_line}
use Rattle.texts.proofs.Text.{put_as}
use Rattle.customer_file.specs.CustomerMachine.{answer_of}
use Rattle.answer_numbers.proofs.Line.{line_of_law}
use borrow.Author.Rules.{rules}
use Rattle.customer_text.proofs.text.Goals as goal

pub slice_bounds-line-end : goal.slice_bounds-line-end
slice_bounds-line-end c = let h : length c.line_of-line.result ≡ 8 = search rules in omega (arith, c.answer-listed.ensures.1)

pub slice_bounds-figures_text-end : goal.slice_bounds-figures_text-end
slice_bounds-figures_text-end c =
    let h : length c.line_of-line.result ≡ 8 = search rules in
    sym (length-take-le _ _ (omega (arith, c.answer-listed.ensures.1)))

pub returns : goal.returns
returns c =
    let e = c.answer-listed.ensures in
    let line = line_of_law (answer_of c.args.file) e.0 e.1 c.line_of-line.ensures in
    put_as (ap figures_line line) c.figures_text.ensures

pub overflow_add-n : goal.overflow_add-n
overflow_add-n c = omega (arith, c.answer-listed.ensures.1)
