-- `window_lines::windows_text` meets its contract: the text is made in an array that holds every text of windows, and
-- copied where it fits.
-- Assumes nothing.
use mathlib.Core.Path.{refl}
use borrow.Author.Rules.{rules}
use native.Mathlib.Omega.{arith}
use Rattle.texts.proofs.Writing.{wrote_as, then, copied}
use Rattle.window_lines.proofs.Runs.{windows_is, windows_long, windows_short}
use Rattle.window_lines.proofs.windows_text.Goals as goal

pub add_head-requires : goal.add_head-requires
add_head-requires c =
    let a = c.args in
    omega (arith, windows_long a.year a.level a.windows.now, windows_short a.year a.level a.windows.now)

pub add_seasons-requires : goal.add_seasons-requires
add_seasons-requires c =
    let a = c.args in
    let head = c.add_head.ensures.wrote in
    omega (arith, windows_long a.year a.level a.windows.now, windows_short a.year a.level a.windows.now, head.end, head.same)

pub returns : goal.returns
returns c =
    copied c.add_bytes.ensures (wrote_as (windows_is _ _ _) (then c.add_head.ensures c.add_seasons.ensures)) refl (search rules)
