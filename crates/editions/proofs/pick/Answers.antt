use mathlib.Core.Path.{sym, ap, ◌∙◌}
use mathlib.Core.Bool.{not}
use native.Mathlib.Omega.{arith}
use Prim.Native.Nat.{◌<◌}
use lib.ListN.{take}
use Rattle.ranges.proofs.Tests.{passed_none, passed_more}
use Rattle.answers.specs.declared.Edition.{Edition}
use Rattle.answers.specs.Ruling.{lacks_year}
use Rattle.editions.specs.Editions.{loaded_in}
use Rattle.editions.proofs.Picked.{Counted, counted, picked_at, picked_none}
use Rattle.editions.proofs.pick.Goals.{After-loaded_in}
use Rattle.editions.proofs.pick.Goals as goal

these : (e : After-loaded_in) → Counted e.args.editions (take e.loaded_in.result e.args.editions.records)
these e = counted _ _ e.well_formed.0.1.1.1.0.1.0.1 e.loaded_in.ensures.0

pub returns-then-not-lacks_year : goal.returns-then-not-lacks_year
returns-then-not-lacks_year c =
    let same = these (goal.at.returns-then-not-lacks_year c).After-loaded_in in
    let k = c.loop-record.record-index in
    let h : k < loaded_in c.args.editions = omega (arith, same.long) in
    let its_year = ap (λ (ed : Edition). lacks_year ed c.args.year) (sym (same.each k h)) in
    same.each k h
    ∙ sym (picked_at _ _ k h (ap not (its_year ∙ sym c.lacks_year.ensures ∙ c.if-not-lacks_year.true)) c.loop-record.invariant)

pub loop-record-preserved : goal.loop-record-preserved
loop-record-preserved c =
    let same = these (goal.at.loop-record-preserved c).After-loaded_in in
    let k = c.loop-record.record-index in
    let its_year = ap (λ (ed : Edition). lacks_year ed c.args.year) (sym (same.each k (omega (arith, same.long)))) in
    passed_more c.loop-record.invariant (ap not (its_year ∙ sym c.lacks_year.ensures ∙ c.if-not-lacks_year.false))

pub returns : goal.returns
returns c =
    sym (picked_none _ _ c.loop-record.record-index (omega (arith, (these (goal.at.returns c).After-loaded_in).long)) c.loop-record.invariant)

pub loop-record-init : goal.loop-record-init
loop-record-init c = passed_none
