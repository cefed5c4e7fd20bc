-- Laws of the search for a value's first position that counts, over a row beside a day's readings: it finds what
-- `first_over` says.
-- Assumes nothing.
use mathlib.Core.Path.{◌≡◌, refl, ap, ◌∙◌}
use mathlib.Core.Bool.{Bool, true, false, cond, ◌&&◌}
use mathlib.Core.List.{List}
use Prim.Native.Nat.{ℕ, ◌<◌, min}
use native.Mathlib.Decide.{dec_lt}
use native.Mathlib.Omega.{arith}
use borrow.Author.Tests.{lt-ltb, le-ltb}
use lib.Dec.{ltb, eqb}
use lib.ListN.{length, get_or, get_or-eq_default}
use Rattle.std.specs.Prelude.{Option, Some, None, unwrap_or, IfSome, position, zip}
use Rattle.std.specs.List.{position_or_len}
use Rattle.std.proofs.lemmas.List.Sums.{position_or_len_is}
use Rattle.std.proofs.lemmas.Slice.Zip.{length-zip, get_or-zip}
use Rattle.ranges.specs.Ranges.{first_over}
use Rattle.ranges.proofs.Bools.{clash}
use Rattle.ranges.proofs.First.{Searched, searched}
use Rattle.ranges.proofs.First.Searched.{found, passed}
use Rattle.day_figures.specs.Day.{alone}

module _ (row : List Bool) (day : List ℕ) (high : ℕ) where
  abbrev hits : Bool × ℕ → Bool
  hits pair = pair.0 && eqb pair.1 high

  abbrev has : ℕ → Bool
  has p = get_or row p false && eqb (alone day p) high

  abbrev pairs : List (Bool × ℕ)
  pairs = zip row day

  -- behind the row's end no position counts
  within : (k : ℕ) → has k ≡ true → k < length row
  within k t = go (dec_lt k (length row))
    where
      go : Dec (k < length row) → k < length row
      go (yes l) = l
      go (no l) =
          absurd (clash t (ap (λ (b : Bool). b && eqb (alone day k) high) (get_or-eq_default row false {n = k} (omega arith))))

  pair_is : (k : ℕ) {t : Bool} → k < length row → k < length day → has k ≡ t → hits (get_or pairs k (false, 0)) ≡ t
  pair_is k a b e = ap hits (get_or-zip row day k (false, 0) a b) ∙ e

  pub first_found :
      {r : Option ℕ}
      → r ≡ position hits pairs
      → (unwrap_or r (length day) ≡ first_over has (length day)) × IfSome r (λ p. p < length day)
  first_found e = go (searched has (length day)) e
    where
      long : length pairs ≡ min (length row) (length day)
      long = length-zip row day

      at : (k : ℕ) {t : Bool} → position_or_len hits pairs ≡ k → ltb k (length pairs) ≡ t → position hits pairs ≡ cond t (Some k) None
      at k p l = ap (λ (i : ℕ). cond (ltb i (length pairs)) (Some i) None) p ∙ ap (λ (b : Bool). cond b (Some k) None) l

      go :
          {i : ℕ} {r : Option ℕ}
          → Searched has (length day) i
          → r ≡ position hits pairs
          → (unwrap_or r (length day) ≡ i) × IfSome r (λ p. p < length day)
      go (found k l t h) e =
          let set = within k t in
          let is =
          position_or_len_is hits pairs k (false, 0) (omega (arith, long)) (λ j m. pair_is j (omega arith) (omega arith) (h j m)) (λ m. pair_is k set l t) in
          rw (e ∙ at k is (lt-ltb k (length pairs) (omega (arith, long)))) (refl, l)
      go (passed h) e =
          let is =
          position_or_len_is hits pairs (length pairs) (false, 0) (omega arith)
          (λ j m. pair_is j (omega (arith, long)) (omega (arith, long)) (h j (omega (arith, long)))) (λ m. absurd (omega arith)) in
          rw (e ∙ at (length pairs) is (le-ltb (length pairs) (length pairs) (omega arith))) (refl, tt)
