-- Where a season is cut: the line as a value; what a limit leaves out and what it keeps; the rank of a quarter that is
-- equal to a limit. So a cut at the line, or at a limit over it, keeps what the definition keeps.
-- Assumes nothing.
use mathlib.Core.Path.{◌≡◌, sym, ap, ◌∙◌}
use mathlib.Core.Bool.{Bool, true, false, ◌&&◌, and-false, or-false}
use mathlib.Core.Logic.{⊎_elim}
use mathlib.Core.List.{List}
use Prim.Native.Nat.{ℕ, ◌+◌, ◌-◌, ◌*◌, ◌≤◌, ◌<◌}
use native.Mathlib.Decide.{dec_lt, ℕ_discrete}
use native.Mathlib.Omega.{arith}
use borrow.Author.Tests.{lt-ltb, le-ltb, ltb-true, le-leb, lt-leb, eq-eqb, ne_eqb}
use lib.Dec.{leb, ltb, eqb}
use lib.ListN.{length, get_or, get_or-eq_default}
use Rattle.ranges.specs.Ranges.{bit, count_over, table}
use Rattle.ranges.proofs.Bools.{decided, both, pair, same_order}
use Rattle.ranges.proofs.Tests.{count_add, count_fails, count_cong, count_mono, count_parts, count_less}
use Rattle.ranges.proofs.Largest.{largest_above}
use Rattle.ranges.proofs.Tables.{table_cong}
use Rattle.answers.specs.declared.Edition.{Edition}
use Rattle.answers.specs.Edition.{whole_share}
use Rattle.answers.specs.Ruling.{day_quarters}
use Rattle.readings.specs.Legal.{highest_of}
use Rattle.windows.specs.Chosen.{above_line, above_in, comes_before, rank, kept, kept_of}
use Rattle.windows.specs.Cuts.{line_of, higher_than, MostBetween, equals_before, kept_at}
use Rattle.windows.proofs.Ahead.{also_above, ahead_early, ahead_late}
use Rattle.windows.proofs.Kept.{higher, why, ahead, not_ahead, few_kept}

-- a value is above the line exactly when it is higher than the line as a value
line_is : (ed : Edition) (peak v : ℕ) → ltb (line_of ed peak) v ≡ above_line ed peak v
unfolding above_line
line_is ed peak v = same_order (line_of ed peak) v (ed.line * peak) (whole_share * v) (λ l. omega arith) (λ l. omega arith)

module _ (curve : List ℕ) where
  abbrev value : ℕ → ℕ
  value k = get_or curve k 0

  -- over a higher limit there are no more
  pub fewer : {low high : ℕ} → low ≤ high → higher_than curve high ≤ higher_than curve low
  unfolding higher_than
  fewer {low} {high} h =
      count_mono (λ k. ltb high (value k)) (λ k. ltb low (value k)) day_quarters
      (λ k l t. lt-ltb low (value k) (omega (arith, ltb-true high (value k) t)))

  -- no value is above the highest, so over the highest there are none
  under_top : (k : ℕ) → value k ≤ highest_of curve
  unfolding highest_of
  under_top k = go (dec_lt k (length curve))
    where
      go : Dec (k < length curve) → value k ≤ highest_of curve
      go (yes l) = largest_above value (length curve) k l
      go (no l) = omega (arith, get_or-eq_default curve 0 {n = k} (omega arith))

  pub none_over : higher_than curve (highest_of curve) ≡ 0
  unfolding higher_than
  none_over = count_fails _ day_quarters (λ k l. le-ltb (highest_of curve) (value k) (under_top k))

  pub under_highest : {limit : ℕ} → 0 < higher_than curve limit → limit < highest_of curve
  under_highest {limit} some = go (dec_lt limit (highest_of curve))
    where
      go : Dec (limit < highest_of curve) → limit < highest_of curve
      go (yes l) = l
      go (no l) = absurd (omega (arith, fewer {low = highest_of curve} {high = limit} (omega arith), none_over))

  -- a cut that takes none of the equals
  just_higher : (limit q : ℕ) → kept_at curve limit 0 q ≡ ltb limit (value q)
  unfolding kept_at
  just_higher limit q =
      simp (le-ltb (equals_before curve limit q) 0 (omega arith), and-false, or-false)

  pub no_equals : (limit : ℕ) {equals : ℕ} → equals ≡ 0 → table (λ q. ltb limit (value q)) day_quarters ≡ table (kept_at curve limit equals) day_quarters
  no_equals limit e = rw e (table_cong _ _ day_quarters (λ q l. sym (just_higher limit q)))

  module _ (ed : Edition) (peak : ℕ) where
    above_is : higher_than curve (line_of ed peak) ≡ above_in ed peak curve
    unfolding higher_than above_in
    above_is = count_cong _ _ day_quarters (λ q l. line_is ed peak (value q))

    over_line : (q : ℕ) → line_of ed peak < value q → above_line ed peak (value q) ≡ true
    over_line q l = sym (line_is ed peak (value q)) ∙ lt-ltb (line_of ed peak) (value q) l

    -- what is not above the line is left out
    not_above : (q : ℕ) → above_line ed peak (value q) ≡ false → kept ed peak curve q ≡ false
    unfolding kept
    not_above q e = rw e

    -- no higher than a value that as many as the limit are higher than
    left_out_law : (low q : ℕ) → ed.limit ≤ higher_than curve low → value q ≤ low → kept ed peak curve q ≡ false
    unfolding kept rank higher_than
    left_out_law low q many h = ⊎_elim yes_above (λ n. not_above q n) (decided (above_line ed peak (value q)))
      where
        yes_above : above_line ed peak (value q) ≡ true → (above_line ed peak (value q) && ltb (rank ed peak curve q) ed.limit) ≡ false
        yes_above a =
            let before = count_mono (λ k. ltb low (value k)) (ahead curve ed peak q) day_quarters
            (λ k l t.
            let up : low < value k = ltb-true low (value k) t in
            pair (also_above ed peak curve q a k (omega arith)) (higher curve k q (omega arith))) in
            rw (le-ltb (rank ed peak curve q) ed.limit (omega (arith, before, many))) (and-false (above_line ed peak (value q)))

    -- higher than a value that no more than the limit are higher than
    kept_high : (high q : ℕ) → line_of ed peak ≤ high → higher_than curve high ≤ ed.limit → q < day_quarters → high < value q → kept ed peak curve q ≡ true
    unfolding kept rank higher_than
    kept_high high q over few l h =
        let less = count_less (ahead curve ed peak q) (λ k. ltb high (value k)) day_quarters q
        (λ k m t. lt-ltb high (value k) (up k (both (above_line ed peak (value k)) _ t).1)) l (lt-ltb high (value q) h) (not_ahead curve ed peak q) in
        pair (over_line q (omega arith)) (lt-ltb (count_over (ahead curve ed peak q) day_quarters) ed.limit (omega (arith, less, few)))
      where
        up : (k : ℕ) → comes_before curve k q ≡ true → high < value k
        up k b = ⊎_elim (λ x. omega arith) (λ x. omega arith) (why curve k q b)

    -- a quarter above the line comes after the higher ones and after those before it that are equal
    rank_is :
        (q : ℕ)
        → q < day_quarters
        → above_line ed peak (value q) ≡ true
        → rank ed peak curve q ≡ higher_than curve (value q) + equals_before curve (value q) q
    unfolding rank higher_than equals_before
    rank_is q l a =
        let cut : day_quarters ≡ q + (day_quarters - q) = omega arith in
        let over : ℕ → Bool = λ k. ltb (value q) (value k) in
        omega (
          arith,
          ap (count_over (ahead curve ed peak q)) cut,
          count_add (ahead curve ed peak q) q (day_quarters - q),
          count_parts (ahead curve ed peak q) over (λ k. eqb (value k) (value q)) q early,
          count_cong (λ k. ahead curve ed peak q (q + k)) (λ k. over (q + k)) (day_quarters - q) (λ k m. ahead_late ed peak curve q a (q + k) (omega arith)),
          ap (count_over over) cut,
          count_add over q (day_quarters - q),
        )
      where
        no_lower : (v w : ℕ) → bit (leb v w) ≡ bit (ltb v w) + bit (eqb w v)
        no_lower v w = go (dec_lt w v) (ℕ_discrete w v)
          where
            go : Dec (w < v) → Dec (w ≡ v) → bit (leb v w) ≡ bit (ltb v w) + bit (eqb w v)
            go (yes m) e = simp (lt-leb v w m, le-ltb v w (omega arith), ne_eqb w v (omega arith))
            go (no m) (yes e) = simp (le-leb v w (omega arith), le-ltb v w (omega arith), eq-eqb w v e)
            go (no m) (no e) = simp (le-leb v w (omega arith), lt-ltb v w (omega arith), ne_eqb w v e)

        early : (k : ℕ) → k < q → bit (ahead curve ed peak q k) ≡ bit (ltb (value q) (value k)) + bit (eqb (value k) (value q))
        early k m = ap bit (ahead_early ed peak curve q a k m) ∙ no_lower (value q) (value k)

    -- a cut at the line, where no more than the limit are above it
    pub at_line : {line : ℕ} → line ≡ line_of ed peak → higher_than curve line ≤ ed.limit → table (kept_at curve line 0) day_quarters ≡ kept_of ed peak curve
    unfolding kept_of
    at_line {line} e few = rw e (table_cong _ _ day_quarters (λ q l. just_higher (line_of ed peak) q ∙ line_is ed peak (value q) ∙ pick q l))
      where
        pick : (q : ℕ) → q < day_quarters → above_line ed peak (value q) ≡ kept ed peak curve q
        pick q l =
            ⊎_elim (λ a. a ∙ sym (few_kept curve ed peak q l (omega (arith, few, above_is, ap (higher_than curve) e)) a))
            (λ n. n ∙ sym (not_above q n)) (decided (above_line ed peak (value q)))

    -- a cut at the highest value, where the line is no lower than that
    pub at_top : highest_of curve ≤ line_of ed peak → table (kept_at curve (highest_of curve) 0) day_quarters ≡ kept_of ed peak curve
    unfolding kept_of
    at_top high = table_cong _ _ day_quarters (λ q l. none_higher q ∙ sym (not_above q (under q)))
      where
        none_higher : (q : ℕ) → kept_at curve (highest_of curve) 0 q ≡ false
        none_higher q = just_higher (highest_of curve) q ∙ le-ltb (highest_of curve) (value q) (under_top q)

        under : (q : ℕ) → above_line ed peak (value q) ≡ false
        under q = sym (line_is ed peak (value q)) ∙ le-ltb (line_of ed peak) (value q) (omega (arith, high, under_top q))

    -- a quarter that is equal to the limit
    equal_kept :
        (limit q : ℕ) {equals : ℕ}
        → q < day_quarters
        → value q ≡ limit
        → line_of ed peak < limit
        → higher_than curve limit ≤ ed.limit
        → equals ≡ ed.limit - higher_than curve limit
        → kept_at curve limit equals q ≡ kept ed peak curve q
    unfolding kept_at kept
    equal_kept limit q {equals} l f over few e =
        let a = over_line q (omega arith) in
        let is = rw f at (rank_is q l a) in
        simp (le-ltb limit (value q) (omega arith), eq-eqb (value q) limit f, a)
        (same_order (equals_before curve limit q) equals (rank ed peak curve q) ed.limit (λ m. omega arith) (λ m. omega arith))

    -- a cut at a value over the line that no more than the limit are higher than, and as many or more than the value
    -- before it
    pub at_limit :
        (limit : ℕ) {equals : ℕ}
        → line_of ed peak < limit
        → MostBetween curve ed.limit (limit - 1) limit
        → equals ≡ ed.limit - higher_than curve limit
        → table (kept_at curve limit equals) day_quarters ≡ kept_of ed peak curve
    unfolding kept_of kept_at
    at_limit limit {equals} over (many, few) e = table_cong _ _ day_quarters (λ q l. go q l (dec_lt limit (value q)) (ℕ_discrete (value q) limit))
      where
        go : (q : ℕ) → q < day_quarters → Dec (limit < value q) → Dec (value q ≡ limit) → kept_at curve limit equals q ≡ kept ed peak curve q
        go q l (yes h) f = simp (lt-ltb limit (value q) h, kept_high limit q (omega arith) few l h)
        go q l (no h) (yes f) = equal_kept limit q l f over few e
        go q l (no h) (no f) =
            simp (le-ltb limit (value q) (omega arith), ne_eqb (value q) limit f, left_out_law (limit - 1) q many (omega arith))
