-- `calendar::is_candidate` meets its contract, a law for each return.
-- Assumes nothing.
use mathlib.Core.Path.{ap, ◌∙◌}
use mathlib.Core.Bool.{not}
use native.Mathlib.Omega.{arith}
use Rattle.day_kinds.proofs.Rules.{candidate_other, candidate_unlisted, candidate_rest}
use Rattle.calendar.proofs.is_candidate.Goals as goal

pub returns-then-marks-beside : goal.returns-then-marks-beside
returns-then-marks-beside c = ap not c.is_free.ensures ∙ candidate_rest _ _ _ _ _ (omega arith) c.if-marks-beside.true

pub returns-then-weekday-on : goal.returns-then-weekday-on
returns-then-weekday-on c = candidate_other _ _ _ _ _ (omega arith)

pub returns : goal.returns
returns c = candidate_unlisted _ _ _ _ _ (omega arith) c.if-marks-beside.false
