-- `bench_grid::bench_windows` meets its contract: it is the called function's.
-- Assumes nothing.
use mathlib.Core.Path.{ap, ◌∙◌}
use Rattle.answer_numbers.specs.Numbers.{numbers_of}
use Rattle.bench_grid.proofs.bench_windows.Goals as goal

pub returns : goal.returns
returns c =
    let called = rw c.todays.ensures at c.windows.ensures in
    (c.of_answer.ensures ∙ ap numbers_of called.0, called.1)
