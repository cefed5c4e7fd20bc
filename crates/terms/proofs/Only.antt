-- Nothing else meets the promise of `open`, nor that of a refusal that is handed on (Rule 13.1).
-- Assumes nothing.
use mathlib.Core.Path.{◌≡◌, refl, sym, ap, ◌∙◌}
use mathlib.Core.Bool.{cond}
use Rattle.std.proofs.Common.{Result, Ok, Err}
use lib.Dec.{eqb}
use Rattle.answers.specs.Said.{Said}
use Rattle.answers.proofs.Laws.{one_answer, back_again}
use Rattle.terms.specs.declared.Terms.{Terms}
use Rattle.terms.specs.declared.OpenRefusal.{OpenRefusal}
use Rattle.terms.specs.declared.OpenRefusal.TheVariants.{YearOut, LevelOut, BadHolidays, PriceOut, Malformed}
use Rattle.terms.specs.Basis.{Basis}
use Rattle.terms.specs.Opening.{said_of_open_refusal, said_of_opening, terms_beside, Opens}
use Rattle.terms.proofs.Answered.{refuses}

-- a refusal, back from what it says
abbrev refusal_back : Said → OpenRefusal
refusal_back a =
    cond (eqb a.number 1) YearOut
    (cond (eqb a.number 2) LevelOut
    (cond (eqb a.number 3) BadHolidays
    (cond (eqb a.number 6) PriceOut Malformed)))

refused_back : (r : OpenRefusal) → refusal_back (said_of_open_refusal r) ≡ r
refused_back YearOut = refl
refused_back LevelOut = refl
refused_back BadHolidays = refl
refused_back PriceOut = refl
refused_back Malformed = refl

-- nothing else meets the promise of what refuses the sheet, handed on as what refuses the opening
pub open_refusal_only : {x : Said} {r s : OpenRefusal} → said_of_open_refusal r ≡ x → said_of_open_refusal s ≡ x → r ≡ s
open_refusal_only = back_again said_of_open_refusal refusal_back refused_back

-- what opening hands back, back from what it says and from the terms beside it
abbrev opening_back : Said → Terms → Result Terms OpenRefusal
opening_back a t = cond (eqb a.number 0) (Ok t) (Err (refusal_back a))

back : (r : Result Terms OpenRefusal) → opening_back (said_of_opening r) (terms_beside r) ≡ r
back (Ok t) = refl
back (Err r) = rw (refuses r) (ap Err (refused_back r))

pub opening_only : {k : Basis} {r s : Result Terms OpenRefusal} → Opens k r → Opens k s → r ≡ s
opening_only {k} {r} {s} p q =
    let a = one_answer p.said q.said in
    let t = one_answer p.terms q.terms in
    sym (back r) ∙ (λ i. opening_back (a i) (t i)) ∙ back s
