-- What loading refuses, test by test: a share, an overlap; and one law for each case of the answer.
-- Assumes nothing.
use mathlib.Core.Path.{◌≡◌, refl, sym, ap, ◌∙◌}
use mathlib.Core.Bool.{Bool, true, false, ◌||◌}
use mathlib.Core.List.{List, [], ◌∷◌}
use Prim.Native.Nat.{ℕ, ◌+◌, ◌≤◌, ◌<◌}
use borrow.Author.Tests.{le-leb, lt-leb}
use native.Mathlib.Omega.{arith}
use Rattle.std.proofs.Math.Numerals.{one-add}
use lib.Dec.{ltb}
use lib.ListN.{length, get_or, set}
use Rattle.std.specs.List.{list_any}
use Rattle.ranges.specs.Ranges.{any_over}
use Rattle.ranges.proofs.Tests.{any_none, any_more, any_add, any_cong}
use Rattle.answers.specs.declared.Edition.{Edition}
use Rattle.answers.specs.Edition.{whole_share}
use Rattle.answers.specs.Said.{only}
use Rattle.editions.specs.declared.Editions.{Editions}
use Rattle.editions.specs.Editions.{editions_most, no_record}
use Rattle.editions.specs.Loading.{bad_edition, meets, overlaps, load_answer, loaded_with}

-- is the share at place k, from 0, above 100 percent? does the record at place k meet another?
abbrev pub above : List ℕ → ℕ → Bool
above shares k = ltb whole_share (get_or shares k 0)

abbrev pub meeting : List Edition → Edition → ℕ → Bool
meeting records ed k = meets (get_or records k no_record) ed

-- what `any` answers over a list is the test of its places, one after the other
pub any_listed : {A : Type 0} (test : A → Bool) (d : A) (xs : List A) → list_any test xs ≡ any_over (λ k. test (get_or xs k d)) (length xs)
any_listed test d [] = sym (any_none _)
any_listed test d (x ∷ xs) =
    let p : ℕ → Bool = λ k. test (get_or (x ∷ xs) k d) in
    let e : 1 + length xs ≡ length (x ∷ xs) = omega arith in
    rw e at (
    ap (λ (b : Bool). test x || b) (any_listed test d xs ∙ any_cong _ (λ k. p (1 + k)) (length xs) (λ k h. rw (one-add k) refl))
    ∙ sym (any_add p 1 (length xs) ∙ rw (any_more p 0, any_none p) refl)
    )

module _ (es : Editions) (ed : Edition) where
  -- the code's cases: full, refused by the record or the list, loaded
  pub said_full : editions_most ≤ es.count → (only 22 ≡ load_answer es ed) × (es ≡ loaded_with es ed)
  unfolding load_answer loaded_with
  said_full h = let e = le-leb editions_most es.count h in (rw e, rw e)

  module _ (room : es.count < editions_most) where
    pub said_refused : (bad_edition ed || overlaps es ed) ≡ true → (only 22 ≡ load_answer es ed) × (es ≡ loaded_with es ed)
    unfolding load_answer loaded_with
    said_refused bad = let e = lt-leb editions_most es.count room in (rw (e, bad), rw (e, bad))

    pub said_loaded :
        (bad_edition ed || overlaps es ed) ≡ false
        → (only 0 ≡ load_answer es ed) × (record { count = es.count + 1; records = set es.records es.count ed } ≡ loaded_with es ed)
    unfolding load_answer loaded_with
    said_loaded good = let e = lt-leb editions_most es.count room in (rw (e, good), rw (e, good))
