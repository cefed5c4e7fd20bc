-- `bench_grid::bench_grid_days` meets its contract: it closes the state after all days.
-- Assumes nothing.
use mathlib.Core.Path.{ap, ◌∙◌}
use lib.ListN.{length}
use Rattle.grid_days.specs.declared.Grid.{Grid}
use Rattle.grid_days.specs.Days.{grid_close_answer, grid_close_buffer}
use Rattle.answer_numbers.specs.Numbers.{numbers_of}
use Rattle.bench_grid.proofs.bench_grid_days.Goals as goal

pub returns : goal.returns
returns c =
    let called = c.close.ensures in
    let state = c.all_grid_days.ensures in
    let out = c.args.out.now in (
      c.of_answer.ensures ∙ ap numbers_of (called.0 ∙ ap (λ (g : Grid). grid_close_answer g (length out)) state),
      called.1 ∙ ap (λ (g : Grid). grid_close_buffer g out) state,
    )
