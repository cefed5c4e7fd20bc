-- The parts of the third demand that speak of a year's figures and of an accepted charge. It is stated with the
-- definitions that the decision itself goes by, not with others of its own. Rule 12.3.
use Rattle.std.specs.Prelude.{◌≡◌, ◌+◌, ◌*◌, ◌≤◌}
use Rattle.answers.specs.declared.Edition.{Edition}
use Rattle.answers.specs.Edition.{whole_share}
use Rattle.answers.specs.Ruling.{least_reduction}
use Rattle.tariff.specs.declared.Figures.{Figures}
use Rattle.tariff.specs.declared.Charged.{Charged}

-- two years with the figures f and e: the same M, the same S, an in-window quarter in both or in neither, and an H of e
-- that is at most that of f
pub record Under (f e : Figures) : Type 0 where
  pub peak : e.peak ≡ f.peak
  pub sum : e.sum ≡ f.sum
  pub any : e.any ≡ f.any
  pub high : e.high ≤ f.high

-- a charge that is accepted by an edition: its floor's percentage of g or more, and its least reduction or more below g
pub record Fair (ed : Edition) (a : Charged) : Type 0 where
  pub floor : ed.floor * a.peaks.plain.general ≤ whole_share * a.charge
  pub reduction : a.charge + least_reduction ed ≤ a.peaks.plain.general
