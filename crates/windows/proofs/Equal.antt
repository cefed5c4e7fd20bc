-- A curve whose values all equal the peak keeps its first quarters, as many as the limit says, whatever the peak is:
-- under every edition whose line is below the peak.
-- Assumes nothing.
use mathlib.Core.Path.{◌≡◌, refl, ◌∙◌}
use mathlib.Core.Bool.{true, false, ◌&&◌}
use mathlib.Core.List.{List, ◌++◌}
use Prim.Native.Nat.{ℕ, ◌*◌, ◌<◌}
use native.Mathlib.Nat.{mul-lt-mul_of_pos_right}
use native.Mathlib.Omega.{arith}
use borrow.Author.Tests.{lt-ltb, eq-eqb}
use lib.Dec.{ltb}
use lib.ListN.{get_or, replicate, get_or-replicate}
use Rattle.ranges.specs.Ranges.{joined, table}
use Rattle.ranges.proofs.Tables.{table_cong}
use Rattle.ranges.proofs.Tests.{count_cong, count_below}
use Rattle.answers.specs.declared.Edition.{Edition}
use Rattle.answers.specs.Edition.{whole_share, today}
use Rattle.answers.specs.Ruling.{day_quarters}
use Rattle.windows.specs.Chosen.{above_line, comes_before, rank, kept, kept_of}

module _ (ed : Edition) (under : ed.line < whole_share) (peak : ℕ) (some : 0 < peak) where
  abbrev curve : List ℕ
  curve = replicate day_quarters peak

  value : (q : ℕ) → q < day_quarters → get_or curve q 0 ≡ peak
  value q l = get_or-replicate {A = ℕ} day_quarters q peak 0 l

  above : (q : ℕ) → q < day_quarters → above_line ed peak (get_or curve q 0) ≡ true
  unfolding above_line
  above q l = rw (value q l) (lt-ltb (ed.line * peak) (whole_share * peak) (mul-lt-mul_of_pos_right under some))

  -- among equals the earlier come before
  before : (p q : ℕ) → p < day_quarters → q < day_quarters → (above_line ed peak (get_or curve p 0) && comes_before curve p q) ≡ ltb p q
  unfolding comes_before
  before p q l h = rw (above p l) (simp (value p l, value q h, eq-eqb peak peak refl))

  rank_is : (q : ℕ) → q < day_quarters → rank ed peak curve q ≡ q
  unfolding rank
  rank_is q h = count_cong _ (λ p. ltb p q) day_quarters (λ p l. before p q l h) ∙ count_below q day_quarters (omega arith)

  kept_is : (q : ℕ) → q < day_quarters → kept ed peak curve q ≡ ltb q ed.limit
  unfolding kept
  kept_is q h = rw (above q h, rank_is q h)

  pub first_kept : kept_of ed peak curve ≡ table (λ q. ltb q ed.limit) day_quarters
  unfolding kept_of
  first_kept = table_cong (kept ed peak curve) (λ q. ltb q ed.limit) day_quarters kept_is

-- under today's edition these are the first forty (Rule 11.1, case 10)
pub first_forty : (peak : ℕ) → 0 < peak → kept_of today peak (replicate day_quarters peak) ≡ replicate 40 true ++ replicate 56 false
unfolding table joined
first_forty peak some = first_kept today (omega arith) peak some
