-- `decision::charge_rules` meets its contract, a law for each return.
-- Assumes nothing.
use mathlib.Core.Path.{◌≡◌, sym, ap, ◌∙◌}
use mathlib.Core.Bool.{true}
use borrow.Author.Tests.{ltb-true, ltb-false, not-true, not-false}
use Rattle.tariff.specs.Answers.{with_plain, with_peaks}
use Rattle.tariff.proofs.Answered.{charge_none, charge_reduction, charge_accepted}
use Rattle.decision.proofs.charge_rules.Goals.{Else-not-figures}
use Rattle.decision.proofs.charge_rules.Goals as goal

-- what is known past the first test
some_at : (e : Else-not-figures) → e.args.figures.any ≡ true
some_at e = not-false _ e.if-not-figures.false

pub returns-then-not-figures : goal.returns-then-not-figures
returns-then-not-figures c rates e = ap with_plain c.plain_of.ensures ∙ charge_none _ _ rates e (not-true _ c.if-not-figures.true)

pub returns-then-reduction_short : goal.returns-then-reduction_short
returns-then-reduction_short c rates e =
    let w = goal.at.returns-then-reduction_short c in
    ap (with_peaks 11) c.peaks_of-peaks.ensures
    ∙ charge_reduction _ _ rates e (some_at w.Else-not-figures) (ltb-true _ _ (sym c.reduction_short.ensures ∙ c.if-reduction_short.true))

pub returns : goal.returns
returns c rates e =
    rw c.peaks_of-peaks.ensures
    (charge_accepted _ _ rates e (some_at (goal.at.returns c).Else-not-figures) (ltb-false _ _ (sym c.reduction_short.ensures ∙ c.if-reduction_short.false)))
