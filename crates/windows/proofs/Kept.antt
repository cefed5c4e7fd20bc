-- What a reader expects of a season's windows, under every edition: no more than its limit, exactly the smaller of the
-- limit and the number above the line; no kept quarter is lower than one left out; among equals the earlier is kept.
-- And the windows of any curves make a legal sheet.
-- Assumes nothing.
use mathlib.Core.Path.{◌≡◌, ap, ◌∙◌}
use mathlib.Core.Bool.{Bool, true, false, ◌&&◌}
use mathlib.Core.Logic.{◌⊎◌, inl, inr, ⊎_elim}
use mathlib.Core.List.{List, [], ◌∷◌}
use Prim.Native.Nat.{ℕ, ◌-◌, ◌≤◌, ◌<◌, min}
use native.Mathlib.Decide.{dec_lt, ℕ_discrete}
use native.Mathlib.Omega.{arith}
use borrow.Author.Tests.{lt-ltb, ltb-true, eq-eqb, ne_eqb}
use lib.ListN.{get_or}
use Rattle.ranges.specs.Limits.{Within}
use Rattle.ranges.specs.Ranges.{joined, count_over, table}
use Rattle.ranges.proofs.Bools.{decided, both, pair, clash}
use Rattle.ranges.proofs.Tests.{count_mono, count_less, count_cong}
use Rattle.ranges.proofs.Tables.{get_d_table}
use Rattle.ranges.proofs.Rank.{exact}
use Rattle.answers.specs.declared.Edition.{Edition}
use Rattle.answers.specs.Ruling.{day_quarters, LegalEdition}
use Rattle.sheet.specs.Windows.{seasons, quarter_place, set_in, Roomy, flat_windows}
use Rattle.sheet.proofs.Windows.{flat_at}
use Rattle.windows.specs.Chosen.{above_line, above_in, comes_before, rank, kept, kept_of, chosen_of}

module _ (curve : List ℕ) where
  abbrev value : ℕ → ℕ
  value k = get_or curve k 0

  -- the order of quarters is strict and total
  pub higher : (p q : ℕ) → value q < value p → comes_before curve p q ≡ true
  unfolding comes_before
  higher p q h = simp (ne_eqb (value p) (value q) (omega arith), lt-ltb (value q) (value p) h)

  earlier : (p q : ℕ) → value p ≡ value q → p < q → comes_before curve p q ≡ true
  unfolding comes_before
  earlier p q e h = simp (eq-eqb (value p) (value q) e, lt-ltb p q h)

  pub why : (p q : ℕ) → comes_before curve p q ≡ true → (value q < value p) ⊎ ((value p ≡ value q) × (p < q))
  unfolding comes_before
  why p q t = go (ℕ_discrete (value p) (value q))
    where
      go : Dec (value p ≡ value q) → (value q < value p) ⊎ ((value p ≡ value q) × (p < q))
      go (yes e) = inr (e, ltb-true p q (simp (eq-eqb (value p) (value q) e) at t))
      go (no e) = inl (ltb-true (value q) (value p) (simp (ne_eqb (value p) (value q) e) at t))

  asym : (p q : ℕ) → comes_before curve p q ≡ true → comes_before curve q p ≡ true → ⊥
  asym p q a b =
      ⊎_elim (λ x. ⊎_elim (λ y. omega arith) (λ y. omega arith) (why q p b))
      (λ x. ⊎_elim (λ y. omega arith) (λ y. omega arith) (why q p b)) (why p q a)

  trans : (p q r : ℕ) → comes_before curve p q ≡ true → comes_before curve q r ≡ true → comes_before curve p r ≡ true
  trans p q r a b =
      ⊎_elim (λ x. ⊎_elim (λ y. higher p r (omega arith)) (λ y. higher p r (omega arith)) (why q r b))
      (λ x. ⊎_elim (λ y. higher p r (omega arith)) (λ y. earlier p r (omega arith) (omega arith)) (why q r b)) (why p q a)

  total : (p q : ℕ) → (p ≡ q → ⊥) → comes_before curve p q ≡ false → comes_before curve q p ≡ true
  total p q d f = go (dec_lt (value q) (value p)) (dec_lt (value p) (value q)) (dec_lt p q)
    where
      go : Dec (value q < value p) → Dec (value p < value q) → Dec (p < q) → comes_before curve q p ≡ true
      go (yes a) b c = absurd (clash (higher p q a) f)
      go (no a) (yes b) c = higher q p b
      go (no a) (no b) (yes c) = absurd (clash (earlier p q (omega arith) c) f)
      go (no a) (no b) (no c) = earlier q p (omega arith) (omega arith)

  module _ (ed : Edition) (peak : ℕ) where
    -- exactly the smaller of the limit and the number above the line
    pub kept_count : count_over (kept ed peak curve) day_quarters ≡ min ed.limit (above_in ed peak curve)
    unfolding kept rank above_in
    kept_count = exact (comes_before curve) total trans asym day_quarters ed.limit (λ q. above_line ed peak (value q))

    pub at_most : count_over (kept ed peak curve) day_quarters ≤ ed.limit
    at_most = omega (arith, kept_count)

    -- so under a legal edition a season with a quarter above the line has a window
    pub some_kept : LegalEdition ed → 0 < above_in ed peak curve → 0 < count_over (kept ed peak curve) day_quarters
    some_kept legal some = omega (arith, kept_count, legal.limit.from)

    -- a quarter's rank counts the quarters above the line before it, so an earlier one's is no larger
    abbrev pub ahead : ℕ → ℕ → Bool
    ahead q k = above_line ed peak (value k) && comes_before curve k q

    pub not_ahead : (k : ℕ) → ahead k k ≡ false
    not_ahead k = ⊎_elim (λ t. let b = (both (above_line ed peak (value k)) _ t).1 in absurd (asym k k b b)) (λ f. f) (decided (ahead k k))

    rank_before : (p q : ℕ) → comes_before curve p q ≡ true → rank ed peak curve p ≤ rank ed peak curve q
    unfolding rank
    rank_before p q b =
        count_mono (ahead p) (ahead q) day_quarters
        (λ k l t.
        let a = both (above_line ed peak (value k)) (comes_before curve k p) t in
        pair a.0 (trans k p q a.1 b))

    -- where no more than the limit are above the line, all of them are kept
    pub few_kept : (q : ℕ) → q < day_quarters → above_in ed peak curve ≤ ed.limit → above_line ed peak (value q) ≡ true → kept ed peak curve q ≡ true
    unfolding kept rank above_in
    few_kept q l few a =
        let above : ℕ → Bool = λ k. above_line ed peak (value k) in
        let less = count_less (ahead q) above day_quarters q (λ k m t. (both (above k) _ t).0) l a (not_ahead q) in
        pair a (lt-ltb (count_over (ahead q) day_quarters) ed.limit (omega arith))

    -- a quarter above the line that comes before a kept one is kept
    pub kept_before :
        (p q : ℕ)
        → above_line ed peak (value p) ≡ true
        → comes_before curve p q ≡ true
        → kept ed peak curve q ≡ true
        → kept ed peak curve p ≡ true
    unfolding kept
    kept_before p q a b k =
        let few = ltb-true (rank ed peak curve q) ed.limit (both (above_line ed peak (value q)) _ k).1 in
        pair a (lt-ltb (rank ed peak curve p) ed.limit (omega (arith, rank_before p q b)))

    -- no kept quarter is lower than one above the line that is left out
    pub none_lower : (p q : ℕ) → kept ed peak curve p ≡ true → above_line ed peak (value q) ≡ true → kept ed peak curve q ≡ false → value q ≤ value p
    none_lower p q k a n = go (dec_lt (value p) (value q))
      where
        go : Dec (value p < value q) → value q ≤ value p
        go (yes l) = absurd (clash (kept_before q p a (higher q p l) k) n)
        go (no l) = omega arith

    -- among equals the earlier is kept
    pub earlier_kept : (p q : ℕ) → p < q → value p ≡ value q → kept ed peak curve q ≡ true → kept ed peak curve p ≡ true
    unfolding kept
    earlier_kept p q l e k =
        let a : above_line ed peak (value q) ≡ true = (both (above_line ed peak (value q)) _ k).0 in
        kept_before p q (rw e a) (earlier p q e l) k

-- the windows of any curves make a legal sheet
module _ (ed : Edition) (peak : ℕ) (curves : List (List ℕ)) where
  pub chosen_at :
      (s q : ℕ)
      → Within 1 seasons s
      → q < day_quarters
      → get_or (flat_windows (chosen_of ed peak curves)) (quarter_place s q) false ≡ kept ed peak (get_or curves (s - 1) []) q
  unfolding chosen_of kept_of
  chosen_at s q h l =
      flat_at (chosen_of ed peak curves) s q h l
      ∙ ap (λ (row : List Bool). get_or row q false) (get_d_table (λ k. kept_of ed peak (get_or curves k [])) seasons (s - 1) [] (omega arith))
      ∙ get_d_table (kept ed peak (get_or curves (s - 1) [])) day_quarters q false l

  pub chosen_roomy : Roomy ed (flat_windows (chosen_of ed peak curves))
  unfolding set_in
  chosen_roomy s h =
      let same = count_cong _ (kept ed peak (get_or curves (s - 1) [])) day_quarters (λ q l. chosen_at s q h l) in
      omega (arith, same, at_most (get_or curves (s - 1) []) ed peak)

  -- four seasons one after the other are the table of four
  pub four_kept :
      {a b c d : List Bool}
      → a ≡ kept_of ed peak (get_or curves 0 [])
      → b ≡ kept_of ed peak (get_or curves 1 [])
      → c ≡ kept_of ed peak (get_or curves 2 [])
      → d ≡ kept_of ed peak (get_or curves 3 [])
      → a ∷ b ∷ c ∷ d ∷ [] ≡ chosen_of ed peak curves
  unfolding chosen_of table joined
  four_kept p q r s = λ i. p i ∷ q i ∷ r i ∷ s i ∷ []
