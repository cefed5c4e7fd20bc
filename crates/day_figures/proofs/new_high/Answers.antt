use mathlib.Core.Path.{◌≡◌, refl, sym, ap, subst, ◌∙◌}
use mathlib.Core.Bool.{Bool, true, false, cond, not, ◌&&◌, ◌||◌, or-false}
use Prim.Native.Nat.{ℕ, ◌+◌, ◌<◌}
use native.Mathlib.Omega.{arith}
use borrow.Author.Tests.{le-ltb}
use lib.Dec.{ltb}
use lib.ListN.{length, get_or}
use Rattle.std.specs.Prelude.{Option, Some, unwrap_or, IfSome}
use Rattle.readings.specs.Legal.{highest_of}
use Rattle.readings.specs.Runs.{quarter_in}
use Rattle.tariff.specs.declared.Figures.{Figures}
use Rattle.figures.specs.Figures.{record_to, taken_in}
use Rattle.figures.proofs.Readings.{one_reading, readings_none, readings_more}
use Rattle.day_figures.specs.Day.{alone, in_row, row_if}
use Rattle.day_figures.specs.Passes.{tops_of, high_at}
use Rattle.day_figures.proofs.OneDay.{flag_in, high_before}
use Rattle.day_figures.proofs.Sunday.{plain_to, plain_none, any_next, high_next, taken_next}
use Rattle.day_figures.proofs.new_high.Goals as goal

-- a choice between a position and the place so far, as a number, and below the day's length
pick_or : (b : Bool) (p : ℕ) (o : Option ℕ) (n : ℕ) → unwrap_or (cond b (Some p) o) n ≡ cond b p (unwrap_or o n)
pick_or true p o n = refl
pick_or false p o n = refl

pick_under : (b : Bool) (p : ℕ) (o : Option ℕ) (n : ℕ) → p < n → IfSome o (λ (k : ℕ). k < n) → IfSome (cond b (Some p) o) (λ (k : ℕ). k < n)
pick_under true p o n l h = l
pick_under false p o n l h = h

pub loop-p-init : goal.loop-p-init
loop-p-init c =
    let a = c.args in
    let day = a.day.now in
    let n = length day in
    let none = sym (le-ltb n n (omega arith)) in (
      omega arith,
      sym (or-false a.f.any) ∙ ap (λ (b : Bool). a.f.any || b) none,
      ap (λ (b : Bool). cond b (alone day n) a.f.high) none,
      λ f ea eh d. sym (high_before (plain_to f day 0) d day n (omega arith)) ∙ plain_none f day ∙ readings_none n _ (alone day) f (d + 1),
      tt,
    )

pub loop-p-preserved : goal.loop-p-preserved
loop-p-preserved c =
    let a = c.args in
    let day = a.day.now in
    let n = length day in
    let p = c.loop-p.p in
    let was = unwrap_or c.loop-p.at n in
    let any = c.loop-p.any in
    let high = c.loop-p.high in
    let test = in_row n (row_if a.flag a.row.now) in
    let l : p < n = omega arith in
    let in_row = c.is_in.ensures ∙ ap (λ (k : ℕ). get_or a.row.now k false) c.quarter_in.ensures in
    let counts = ap (λ (b : Bool). a.flag && b) in_row ∙ flag_in a.flag a.row.now (quarter_in n p) in
    let new : Bool → Bool = λ b. b && (not any || ltb high (alone day p)) in
    let is-high = c.pick-high.ensures ∙ ap (λ (b : Bool). cond (new b) (alone day p) high) counts in
    let picked = c.pick-at.ensures ∙ ap (λ (b : Bool). cond (new b) (Some p) c.loop-p.at) counts in
    let is_at = ap (λ (o : Option ℕ). unwrap_or o n) picked ∙ pick_or (new (test p)) p c.loop-p.at n in (
      omega arith,
      ap (λ (b : Bool). any || b) counts
          ∙ any_next day was p (test p) any high l a.f.any c.loop-p.invariant.1
          ∙ ap (λ (k : ℕ). a.f.any || ltb k n) (sym is_at),
      is-high
          ∙ high_next day was p (test p) any high l a.f.high c.loop-p.invariant.2
          ∙ ap (λ (k : ℕ). cond (ltb k n) (alone day k) a.f.high) (sym is_at),
      λ f ea eh d.
          ap (high_at (plain_to f day (p + 1)) d day) is_at
          ∙ taken_next day was p (test p) any high l f d
          (ap (λ (b : Bool). b || ltb was n) ea ∙ sym c.loop-p.invariant.1)
          (ap (λ (h : ℕ). cond (ltb was n) (alone day was) h) eh ∙ sym c.loop-p.invariant.2)
          ∙ ap (λ (g : Figures). taken_in g (d + 1) (one_reading (quarter_in n p) (test p) (alone day p))) (c.loop-p.invariant.3 f ea eh d)
          ∙ readings_more n test (alone day) f (d + 1) p,
      subst (λ (o : Option ℕ). IfSome o (λ (k : ℕ). k < n)) (sym picked) (pick_under (new (test p)) p c.loop-p.at n l c.loop-p.invariant.4),
    )

pub returns : goal.returns
unfolding tops_of highest_of
returns c =
    let a = c.args in
    let day = a.day.now in
    let n = length day in
    let all : c.loop-p.p ≡ n = omega arith in
    let at = unwrap_or c.loop-p.at n in (
      record {
        is = λ d.
            ap (λ (p : ℕ). high_at (plain_to a.f day p) d day at) (sym all)
            ∙ c.loop-p.invariant.3 a.f refl refl d
            ∙ ap (λ (p : ℕ). taken_in a.f (d + 1) (record_to n p (in_row n (row_if a.flag a.row.now)) (alone day))) all;
      },
      c.loop-p.invariant.4,
    )
