-- Laws of `table`: an array is its table, and what a loop that fills an array keeps. The function is the first explicit
-- argument.
-- Assumes nothing.
use mathlib.Core.Path.{◌≡◌, sym, ap, ◌∙◌}
use mathlib.Core.List.{List, [], ◌∷◌, ◌++◌, append_assoc, append-nil}
use Prim.Native.Nat.{ℕ, zero, suc, ◌+◌, ◌≤◌, ◌<◌}
use native.Mathlib.Nat.{not-suc-le-zero}
use native.Mathlib.Decide.{dec_lt}
use native.Mathlib.Omega.{arith}
use borrow.Author.Count.{below_none, below_more}
use lib.ListN.{length, take, get_or, set, length-append, length-set, get_or-append}
use lib.Seq.{ext_get_or, get_or_at, get_or-take, get_or-set_same, get_or-set_other, length-take-le}
use Rattle.ranges.specs.Ranges.{table}
use Rattle.ranges.proofs.Joined.{joined_none, joined_suc, joined_more, joined_cong, joined_add}

module _ {A : Type 0} (f : ℕ → A) where
  pub table_none : table f 0 ≡ []
  unfolding table
  table_none = joined_none ◌++◌ [] _

  pub table_suc : (n : ℕ) → table f (suc n) ≡ table f n ++ (f n ∷ [])
  unfolding table
  table_suc n = joined_suc ◌++◌ [] _ n

  pub table_more : (n : ℕ) → table f (n + 1) ≡ table f n ++ (f n ∷ [])
  unfolding table
  table_more n = joined_more ◌++◌ [] _ n

  pub table_add : (a b : ℕ) → table f (a + b) ≡ table f a ++ table (λ k. f (a + k)) b
  unfolding table
  table_add a b = joined_add ◌++◌ [] _ a b append_assoc append-nil

  pub length_table : (n : ℕ) → length (table f n) ≡ n
  length_table zero = rw table_none
  length_table (suc n) = rw (table_suc, length-append, length_table n) (omega arith)

  pub get_d_table : (n i : ℕ) (d : A) → i < n → get_or (table f n) i d ≡ f i
  get_d_table zero i d h = absurd (not-suc-le-zero h)
  get_d_table (suc n) i d h = rw table_suc (go (dec_lt i n) (get_d_table n i d))
    where
      go : Dec (i < n) → (i < n → get_or (table f n) i d ≡ f i) → get_or (table f n ++ (f n ∷ [])) i d ≡ f i
      go (yes l) ih = get_or-append (table f n) _ d i (omega (arith, length_table n)) ∙ ih l
      go (no l) ih =
          let e : i ≡ n = omega arith in
          rw e (get_or_at (table f n) (f n) [] d n (length_table n))

  -- a list of n values that are f's is the table
  pub is_table : (n : ℕ) (d : A) (xs : List A) → length xs ≡ n → ((i : ℕ) → i < n → get_or xs i d ≡ f i) → xs ≡ table f n
  is_table n d xs e h =
      ext_get_or d xs (table f n) (e ∙ sym (length_table n)) (λ i l. h i (omega arith) ∙ sym (get_d_table n i d (omega arith)))

pub table_cong : {A : Type 0} (f g : ℕ → A) (n : ℕ) → ((k : ℕ) → k < n → f k ≡ g k) → table f n ≡ table g n
unfolding table
table_cong {A} f g n h = joined_cong ◌++◌ [] _ _ n (λ k l. ap (λ (a : A). a ∷ []) (h k l))

-- what a loop that fills an array of n places keeps: the first i places hold f
pub record Filled {A : Type 0} (f : ℕ → A) (n : ℕ) (d : A) (i : ℕ) (out : List A) : Type 0 where
  pub some : i ≤ n
  pub long : length out ≡ n
  pub each : (k : ℕ) → k < i → get_or out k d ≡ f k

module _ {A : Type 0} {f : ℕ → A} {n : ℕ} {d : A} {out : List A} where
  pub filled_none : length out ≡ n → Filled f n d 0 out
  filled_none e = record { some = omega arith; long = e; each = below_none _ }

  pub filled_more : {i : ℕ} {v : A} → Filled f n d i out → i < n → v ≡ f i → Filled f n d (i + 1) (set out i v)
  filled_more {i} {v} h l e =
      record {
        some = omega arith;
        long = simp length-set h.long;
        each =
            below_more (λ k. get_or (set out i v) k d ≡ f k) i
            (λ k b. get_or-set_other out i k v d (omega arith) ∙ h.each k b)
            (get_or-set_same out i v d (omega arith) ∙ e);
      }

  -- its first places are the table of as many
  pub filled_part : {i : ℕ} (m : ℕ) → Filled f n d i out → m ≤ i → take m out ≡ table f m
  filled_part m h l =
      is_table f m d (take m out) (length-take-le m out (omega (arith, h.some, h.long))) (λ k b. get_or-take m out k d b ∙ h.each k (omega arith))

  pub filled_all : {i : ℕ} → Filled f n d i out → n ≤ i → out ≡ table f n
  filled_all h m = is_table f n d out h.long (λ k l. h.each k (omega arith))
