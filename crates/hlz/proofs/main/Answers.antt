-- `hlz::main` writes no more of its array than the text that `grid_text` laid there.
-- Assumes nothing.
use Rattle.texts.proofs.Text.{within}
use Rattle.hlz.proofs.main.Goals as goal

pub slice_bounds-write_all-end : goal.slice_bounds-write_all-end
slice_bounds-write_all-end c = within _ _ c.text-n.ensures
