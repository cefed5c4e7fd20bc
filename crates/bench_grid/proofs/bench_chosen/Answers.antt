-- `bench_grid::bench_chosen` meets its contract: it is the called function's, by today's edition.
-- Assumes nothing.
use Rattle.bench_grid.proofs.bench_chosen.Goals as goal

pub returns : goal.returns
returns c = rw c.today.ensures at c.chosen.ensures
