-- An answer of an opening or of a day that is not `Taken` is a refusal.
-- Assumes nothing.
use mathlib.Core.Path.{◌≡◌, sym, ap, ◌∙◌}
use mathlib.Core.Bool.{false}
use borrow.Author.Tests.{ne_eqb}
use lib.Dec.{eqb}
use Rattle.answers.specs.Said.{Said, only}
use Rattle.tariff.specs.declared.Decision.{Decision}
use Rattle.tariff.specs.declared.Decision.TheVariants.{Taken}
use Rattle.tariff.specs.Answers.{said_of}
use Rattle.tariff.proofs.Only.{decision_only}

-- for answers whose 0 has no figures
pub untaken :
    {d : Decision} {said : Said}
    → said_of d ≡ said
    → (said.number ≡ 0 → only 0 ≡ said)
    → (d ≡ Taken → ⊥)
    → eqb (said_of d).number 0 ≡ false
untaken {d} e zero n = ne_eqb _ _ (λ z. n (decision_only e (zero (sym (ap (λ (s : Said). s.number) e) ∙ z))))
