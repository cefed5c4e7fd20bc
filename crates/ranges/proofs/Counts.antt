-- How many values of a list pass a test, as the library counts them: `count_by` over a list is `count_over` of its
-- places.
-- Assumes nothing.
use mathlib.Core.Path.{◌≡◌, sym, ap, ◌∙◌}
use mathlib.Core.Bool.{Bool}
use mathlib.Core.List.{List}
use Prim.Native.Nat.{ℕ, zero, suc, ◌+◌, ◌≤◌}
use native.Mathlib.Numerals.{add-one}
use native.Mathlib.Omega.{arith}
use lib.ListN.{length, get_or, take}
use lib.Seq.{take_all}
use Rattle.std.specs.List.{count_by, sum_by, range_with_len}
use Rattle.std.proofs.lemmas.List.Sums.{sum_by_more}
use Rattle.std.proofs.lemmas.List.FromFn.{length-range_with_len, get_or-range_with_len}
use Rattle.ranges.specs.Ranges.{bit, count_over}
use Rattle.ranges.proofs.Tests.{count_none, count_suc, count_cong}

-- the first n values of a list, where any value stands behind its end
pub count_first :
    {A : Type 0} (test : A → Bool) (d : A) (xs : List A) (n : ℕ)
    → n ≤ length xs
    → count_by test (take n xs) ≡ count_over (λ k. test (get_or xs k d)) n
count_first test d xs zero h = sym (count_none _)
count_first {A} test d xs (suc n) h =
    let f : A → ℕ = λ x. bit (test x) in
    let more : sum_by f (take (suc n) xs) ≡ sum_by f (take n xs) + f (get_or xs n d) = rw add-one at (sum_by_more f xs n d (omega arith)) in
    more ∙ ap (λ (m : ℕ). m + f (get_or xs n d)) (count_first test d xs n (omega arith)) ∙ sym (count_suc _ n)

-- the places below n
pub count_listed : (p : ℕ → Bool) (n : ℕ) → count_by p (range_with_len 0 n) ≡ count_over p n
count_listed p n =
    let xs = range_with_len 0 n in
    ap (count_by p) (sym (take_all n xs (omega (arith, length-range_with_len 0 n))))
    ∙ count_first p 0 xs n (omega (arith, length-range_with_len 0 n))
    ∙ count_cong _ _ n (λ k l. let e : 0 + k ≡ k = omega arith in ap p (get_or-range_with_len 0 n k 0 l ∙ e))
