-- `grid_curves::lay_day` meets its contract: the readings that the day has are laid.
-- Assumes nothing.
use mathlib.Core.Path.{◌≡◌, ◌∙◌}
use Prim.Native.Nat.{min}
use native.Mathlib.Omega.{arith}
use lib.ListN.{length, length-take}
use Rattle.readings.specs.declared.Run.TheVariants.{Period}
use Rattle.readings.specs.Runs.{day_len}
use Rattle.grid_curves.proofs.Curves.{merged_held}
use Rattle.grid_curves.proofs.lay_day.Goals.{After-min-n}
use Rattle.grid_curves.proofs.lay_day.Goals as goal

-- how many readings are laid
many :
    (e : After-min-n)
    → let a = e.args in
    e.min-n.result ≡ min (length a.day.now) (day_len (Period a.year) a.d)
many e = omega (arith, e.min-n.ensures, e.day_len-len.ensures)

pub lay-requires : goal.lay-requires
lay-requires c =
    let h = many (goal.at.lay-requires c).After-min-n in
    let len = c.day_len-len.ensures in
    (len, simp length-take (omega (arith, len)), c.season_of.ensures)

pub returns : goal.returns
returns c = c.lay.ensures ∙ merged_held _ _ _ _ (many (goal.at.returns c).After-min-n)

pub slice_bounds-lay-end : goal.slice_bounds-lay-end
slice_bounds-lay-end c = simp length-take (let h = many (goal.at.slice_bounds-lay-end c).After-min-n in omega arith)
