use mathlib.Core.Path.{◌≡◌, sym, ◌∙◌}
use mathlib.Core.Bool.{Bool, false}
use mathlib.Core.List.{List}
use Prim.Native.Nat.{ℕ}
use borrow.Author.Tests.{eqb-true, eqb-false}
use lib.Dec.{eqb}
use lib.ListN.{length}
use native.Mathlib.Omega.{arith}
use Rattle.ranges.proofs.Tests.{passed_none, passed_more}
use Rattle.day_text.proofs.Laws.{none, cut, misfit_found, all_fit}
use Rattle.day_text.proofs.no_dates.Goals.{then-is_empty-via-then-is_empty, then-is_empty-via-else-is_empty+then-b-ne0}
use Rattle.day_text.proofs.no_dates.Goals as goal

-- some byte
some : (b : List ℕ) {r : Bool} → r ≡ eqb (length b) 0 → r ≡ false → length b ≡ 0 → ⊥
some b e f = eqb-false (length b) 0 (sym e ∙ f)

pub returns-then-is_empty : goal.returns-then-is_empty
returns-then-is_empty c =
    elim c.then-is_empty.branch [
      | then-is_empty-via-then-is_empty w ↦ none _ (eqb-true (length c.args.b.now) 0 (sym c.is_empty.ensures ∙ w.if-is_empty.true))
      | then-is_empty-via-else-is_empty+then-b-ne0 w ↦ cut _ (some _ c.is_empty.ensures w.if-is_empty.false) w.if-b-ne0.true
    ]

pub loop-i-init : goal.loop-i-init
loop-i-init c = passed_none

pub returns-then-misfit : goal.returns-then-misfit
returns-then-misfit c =
    let not_empty = some _ c.is_empty.ensures c.if-is_empty.false in
    misfit_found _ not_empty (omega (arith, c.if-b-ne0.false)) c.loop-i.i (omega (arith, c.loop-i-test.true))
    (sym c.misfit.ensures ∙ c.if-misfit.true)

pub loop-i-preserved : goal.loop-i-preserved
loop-i-preserved c = passed_more c.loop-i.invariant (sym c.misfit.ensures ∙ c.if-misfit.false)

pub returns : goal.returns
returns c =
    all_fit _ (some _ c.is_empty.ensures c.if-is_empty.false) (omega (arith, c.if-b-ne0.false)) c.loop-i.invariant (omega (arith, c.loop-i-test.false))
