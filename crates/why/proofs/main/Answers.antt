-- `why::main` writes no more of its array than the text that `day_text` laid there.
use Rattle.texts.proofs.Text.{within}
use Rattle.why.proofs.main.Goals as goal

pub slice_bounds-write_all-end : goal.slice_bounds-write_all-end
slice_bounds-write_all-end c = within _ _ c.text-m.ensures
