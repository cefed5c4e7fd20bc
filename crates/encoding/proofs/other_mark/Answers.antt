-- `encoding::other_mark` meets its contract, byte by byte.
-- Assumes nothing.
use mathlib.Core.Path.{◌∙◌}
use Rattle.encoding.proofs.Bytes.{other_mark_array}
use Rattle.encoding.proofs.other_mark.Goals as goal

pub returns : goal.returns
returns c = c.ne.ensures ∙ other_mark_array _ _ _ c.told-mark c.byte_at.ensures c.byte_at-2.ensures c.byte_at-3.ensures
