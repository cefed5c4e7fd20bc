-- The quarters that are equal to a limit are added one after the other: what the loop
-- keeps, and that it comes to `kept_at`.
-- Assumes nothing.
use mathlib.Core.Path.{◌≡◌, sym, ap, ◌∙◌}
use mathlib.Core.Bool.{Bool, false, ◌&&◌, ◌||◌}
use mathlib.Core.List.{List}
use Prim.Native.Nat.{ℕ, ◌+◌, ◌≤◌, ◌<◌}
use native.Mathlib.Omega.{arith}
use borrow.Author.Count.{below_none, below_more}
use lib.Dec.{ltb, eqb}
use lib.ListN.{length, get_or, set, length-set}
use lib.Seq.{get_or-set_same, get_or-set_other}
use Rattle.ranges.specs.Ranges.{bit, table}
use Rattle.ranges.proofs.Tests.{count_none, counted}
use Rattle.ranges.proofs.Tables.{length_table, get_d_table, is_table}
use Rattle.answers.specs.Ruling.{day_quarters}
use Rattle.windows.specs.Cuts.{equals_before, kept_at}

module _ (curve : List ℕ) (limit equals : ℕ) where
  abbrev higher : ℕ → Bool
  higher k = ltb limit (get_or curve k 0)

  -- what the loop keeps: the equals before quarter q are counted, the quarters before
  -- it decided, the others as they were
  pub record Added (q n : ℕ) (out : List Bool) : Type 0 where
    pub some : q ≤ day_quarters
    pub few : n ≤ q
    pub count : n ≡ equals_before curve limit q
    pub long : length out ≡ day_quarters
    pub each : (k : ℕ) → k < q → get_or out k false ≡ kept_at curve limit equals k
    pub rest : (k : ℕ) → q ≤ k → k < day_quarters → get_or out k false ≡ higher k

  pub added_none : {out : List Bool} → out ≡ table higher day_quarters → Added 0 0 out
  unfolding equals_before
  added_none e =
      record {
        some = omega arith;
        few = omega arith;
        count = sym (count_none _);
        long = ap length e ∙ length_table higher day_quarters;
        each = below_none _;
        rest = λ k l m. rw e (get_d_table higher day_quarters k false m);
      }

  module _ {q n : ℕ} {out : List Bool} (h : Added q n out) where
    pub added_more :
        {v : Bool} {b : ℕ}
        → q < day_quarters
        → v ≡ (get_or out q false || (eqb (get_or curve q 0) limit && ltb n equals))
        → b ≡ bit (eqb (get_or curve q 0) limit)
        → b ≤ 1
        → Added (q + 1) (n + b) (set out q v)
    unfolding equals_before kept_at
    added_more {v} {b} l e f m =
        record {
          some = omega arith;
          few = omega arith;
          count = counted _ q h.count f;
          long = simp length-set h.long;
          each =
              below_more (λ k. get_or (set out q v) k false ≡ kept_at curve limit equals k) q
              (λ k b. get_or-set_other out q k v false (omega arith) ∙ h.each k b)
              (get_or-set_same out q v false (omega (arith, h.long)) ∙ e ∙ rw (h.rest q (omega arith) l, h.count));
          rest = λ k a b. get_or-set_other out q k v false (omega arith) ∙ h.rest k (omega arith) b;
        }

    pub added_all : day_quarters ≤ q → out ≡ table (kept_at curve limit equals) day_quarters
    added_all m = is_table _ day_quarters false out h.long (λ k l. h.each k (omega arith))
