use mathlib.Core.Path.{◌≡◌, sym, ap, ◌∙◌}
use Prim.Native.Nat.{ℕ, max}
use native.Mathlib.Omega.{arith}
use lib.Bits.{bit_and}
use lib.ListN.{length, get_or, length-append}
use Rattle.ranges.specs.Ranges.{largest_over}
use Rattle.ranges.proofs.Largest.{largest_none, largest_more, largest_cong}
use Rattle.readings.specs.Runs.{quarter_in}
use Rattle.readings.proofs.Quarters.{quarter_plain}
use Rattle.day_figures.specs.Day.{alone}
use Rattle.day_figures.specs.Passes.{masked_high}
use borrow.Author.Rules.{rules}
use Rattle.std.specs.Iterator.Adapters.{zip_first, zip_second}
use Rattle.std.specs.Slice.Iter.{iter_rest}
use Rattle.std.proofs.lemmas.Slice.Zip.{zip_turn, zip_end}
use Rattle.day_figures.proofs.masked_usual.Goals as goal

pub loop-reading-preserved : goal.loop-reading-preserved
loop-reading-preserved c =
    let a = c.args in
    let s = c.into_iter-reading-iterator.result in
    let first : iter_rest (zip_first s) ≡ a.day.now = search rules in
    let second : iter_rest (zip_second s) ≡ a.masks.now = search rules in
    let l = c.loop-reading in
    let n = length l.yielded in
    let turn =
    zip_turn a.day.now a.masks.now l.yielded s l.reading-iterator c.next.new.self _ first second l.yielded_by _ c.in-Some.is c.next.ensures.steps in
    let at : bit_and c.in-Some.reading.now c.in-Some.mask.now ≡ bit_and (alone a.day.now n) (get_or a.masks.now n 0) =
    λ i. bit_and (turn.2 0 i) (turn.3 0 i) in
    let larger : c.max-high.result ≡ max c.loop-reading.high (bit_and c.in-Some.reading.now c.in-Some.mask.now) = search rules in
    simp length-append (omega arith, larger ∙ (λ i. max (c.loop-reading.invariant.1 i) (at i)) ∙ sym (largest_more _ _))

pub returns : goal.returns
unfolding masked_high
returns c =
    let a = c.args in
    let s = c.into_iter-reading-iterator.result in
    let first : iter_rest (zip_first s) ≡ a.day.now = search rules in
    let second : iter_rest (zip_second s) ≡ a.masks.now = search rules in
    let l = c.loop-reading in
    let last =
    zip_end a.day.now a.masks.now l.yielded s l.reading-iterator c.next.new.self _ first second l.yielded_by c.in-None.is c.next.ensures.steps in
    let n = length a.day.now in
    let v : ℕ → ℕ → ℕ = λ k q. bit_and (alone a.day.now k) (get_or a.masks.now q 0) in
    let all : length c.loop-reading.yielded ≡ n = omega (arith, c.requires, last) in
    let order : (k : ℕ) → k ≡ quarter_in n k =
    λ k. sym (quarter_plain n k (λ e. omega (arith, e, c.requires)) (λ e. omega (arith, e, c.requires))) in
    c.loop-reading.invariant.1 ∙ ap (largest_over (λ k. v k k)) all ∙ largest_cong _ _ n (λ k l. ap (v k) (order k))

pub loop-reading-init : goal.loop-reading-init
loop-reading-init c = (omega arith, sym (largest_none _))
