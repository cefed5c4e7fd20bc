-- `decision::eligible_rules` meets its contract, a law for each return.
-- Assumes nothing.
use mathlib.Core.Path.{◌≡◌, sym, ap, ◌∙◌}
use mathlib.Core.Bool.{true}
use Prim.Native.Nat.{◌*◌, ◌≤◌}
use native.Mathlib.Omega.{arith}
use borrow.Author.Tests.{ltb-true, ltb-false, not-true, not-false}
use Rattle.answers.specs.Edition.{whole_share}
use Rattle.answers.specs.Ruling.{share_of}
use Rattle.tariff.specs.declared.Rates.{Rates}
use Rattle.tariff.specs.Answers.{with_plain, with_peaks}
use Rattle.tariff.specs.Decision.{moved}
use Rattle.tariff.proofs.Answered.{eligible_none, eligible_share, eligible_move, eligible_yes}
use Rattle.decision.proofs.eligible_rules.Goals.{Else-not-figures, Else-share_short}
use Rattle.decision.proofs.eligible_rules.Goals as goal

-- what is known past each test
some_at : (e : Else-not-figures) → e.args.figures.any ≡ true
some_at e = not-false _ e.if-not-figures.false

share_at :
    (e : Else-share_short)
    → let a = e.args in
    (rates : Rates)
    → a.share ≡ share_of a.edition rates.level
    → share_of a.edition rates.level * a.figures.peak ≤ whole_share * moved a.figures
share_at e rates s = rw s at (ltb-false _ _ (sym e.share_short.ensures ∙ e.if-share_short.false))

pub returns-then-not-figures : goal.returns-then-not-figures
returns-then-not-figures c rates s g =
    ap with_plain c.plain_of.ensures ∙ eligible_none _ _ rates g (not-true _ c.if-not-figures.true)

pub returns-then-share_short : goal.returns-then-share_short
returns-then-share_short c rates s g =
    ap (with_peaks 9) c.peaks_of.ensures
    ∙ eligible_share _ _ rates g (some_at (goal.at.returns-then-share_short c).Else-not-figures)
    (rw s at (ltb-true _ _ (sym c.share_short.ensures ∙ c.if-share_short.true)))

pub returns-then-moved_out-edition : goal.returns-then-moved_out-edition
returns-then-moved_out-edition c rates s g =
    let w = goal.at.returns-then-moved_out-edition c in
    ap (with_peaks 10) c.peaks_of-then-moved_out-edition.ensures
    ∙ eligible_move _ _ rates g (some_at w.Else-not-figures) (share_at w.Else-share_short rates s) (omega arith)

pub returns : goal.returns
returns c rates s g =
    let w = goal.at.returns c in
    eligible_yes _ _ rates g (some_at w.Else-not-figures) (share_at w.Else-share_short rates s) (omega arith)
