-- `file_cases::print_windows` takes no more out of its array than the text that the machine wrote there.
-- Assumes nothing.
use Rattle.texts.proofs.Text.{within}
use Rattle.file_cases.proofs.print_windows.Goals as goal

pub slice_bounds-write_all-end : goal.slice_bounds-write_all-end
slice_bounds-write_all-end g c = within _ _ c.text-n.ensures
