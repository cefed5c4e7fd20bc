-- `windows::chosen` meets its contract: the four seasons one after the other, each by the edition.
-- Assumes nothing.
use mathlib.Core.Path.{refl}
use Rattle.windows.proofs.Kept.{four_kept}
use Rattle.windows.proofs.chosen.Goals as goal

pub returns : goal.returns
returns c =
    four_kept _ _ _ c.keep.ensures c.keep-2.ensures c.keep-3.ensures c.keep-4.ensures

pub keep-requires : goal.keep-requires
keep-requires c = refl

pub keep-requires-2 : goal.keep-requires-2
keep-requires-2 c = refl

pub keep-requires-3 : goal.keep-requires-3
keep-requires-3 c = refl

pub keep-requires-4 : goal.keep-requires-4
keep-requires-4 c = refl
