-- Laws of the loop that makes a row's masks: it goes as far as the row says something, and the masks behind it stay 0.
-- Assumes nothing.
use mathlib.Core.Path.{◌≡◌, sym, ap, ◌∙◌}
use mathlib.Core.Bool.{Bool, false}
use mathlib.Core.List.{List}
use Prim.Native.Nat.{ℕ, ◌+◌, ◌≤◌, ◌<◌, min}
use native.Mathlib.Decide.{dec_lt}
use native.Mathlib.Omega.{arith}
use lib.ListN.{length, get_or, set, replicate, length-set, length-replicate, get_or-replicate, get_or-eq_default}
use lib.Seq.{get_or-set_same, get_or-set_other}
use Rattle.ranges.specs.Ranges.{number_if}
use Rattle.ranges.proofs.Tables.{is_table}
use Rattle.answers.specs.Ruling.{day_quarters}
use Rattle.day_figures.specs.Passes.{all_ones, masks_of}

module _ (row : List Bool) where
  abbrev mask_at : ℕ → ℕ
  mask_at k = number_if (get_or row k false) all_ones

  -- the masks of the first q quarters are made
  pub record Made (q : ℕ) (out : List ℕ) : Type 0 where
    pub some : q ≤ min (length row) day_quarters
    pub long : length out ≡ day_quarters
    pub each : (k : ℕ) → k < q → get_or out k 0 ≡ mask_at k
    pub rest : (k : ℕ) → q ≤ k → get_or out k 0 ≡ 0

  pub made_none : Made 0 (replicate day_quarters 0)
  made_none =
      record { some = omega arith; long = blank; each = λ k l. absurd (omega arith); rest = λ k l. go k (dec_lt k day_quarters) }
    where
      blank : length (replicate {A = ℕ} day_quarters 0) ≡ day_quarters
      blank = length-replicate {A = ℕ} day_quarters 0

      go : (k : ℕ) → Dec (k < day_quarters) → ◌≡◌ {A = ℕ} (get_or (replicate day_quarters 0) k 0) 0
      go k (yes l) = get_or-replicate day_quarters k 0 0 l
      go k (no l) = get_or-eq_default (replicate day_quarters 0) 0 {n = k} (omega (arith, blank))

  pub made_more :
      {q v : ℕ} {out : List ℕ}
      → Made q out
      → q < min (length row) day_quarters
      → v ≡ mask_at q
      → Made (q + 1) (set out q v)
  made_more {q} {v} {out} m l e =
      record {
        some = omega arith;
        long = simp length-set m.long;
        each = λ k b. go k (dec_lt k q) b;
        rest = λ k b. get_or-set_other out q k v 0 (omega arith) ∙ m.rest k (omega arith);
      }
    where
      go : (k : ℕ) → Dec (k < q) → k < q + 1 → get_or (set out q v) k 0 ≡ mask_at k
      go k (yes b) c = get_or-set_other out q k v 0 (omega arith) ∙ m.each k b
      go k (no b) c = let s : k ≡ q = omega arith in rw s (get_or-set_same out q v 0 (omega (arith, m.long)) ∙ e)

  pub made_all : {q : ℕ} {out : List ℕ} → Made q out → min (length row) day_quarters ≤ q → out ≡ masks_of row
  unfolding masks_of
  made_all {q} {out} m l = is_table mask_at day_quarters 0 out m.long (λ k b. go k b (dec_lt k q))
    where
      go : (k : ℕ) → k < day_quarters → Dec (k < q) → get_or out k 0 ≡ mask_at k
      go k b (yes c) = m.each k c
      go k b (no c) =
          m.rest k (omega arith) ∙ sym (ap (λ (s : Bool). number_if s all_ones) (get_or-eq_default row false {n = k} (omega arith)))
