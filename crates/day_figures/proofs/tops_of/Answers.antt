-- `day_figures::tops_of` meets its contract, figure by figure.
-- Assumes nothing.
use Rattle.day_figures.proofs.OneDay.{tops_are}
use Rattle.day_figures.proofs.tops_of.Goals as goal

pub returns : goal.returns
returns c = let s = c.sum_of-sum.ensures in (tops_are _ c.highest-peak.ensures s.is, s.most)
