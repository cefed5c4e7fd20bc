-- Laws of text in a lent buffer: two writes, one after the other, are one; texts one after the other; all or nothing.
-- Assumes nothing.
use mathlib.Core.Path.{◌≡◌, refl, sym, ap, ◌∙◌}
use mathlib.Core.Bool.{true, false}
use mathlib.Core.List.{List, [], ◌++◌, append_assoc}
use Prim.Native.Nat.{ℕ, zero, suc, ◌+◌, ◌*◌, ◌≤◌, ◌<◌}
use native.Mathlib.Nat.{add-zero, add_assoc, not-suc-le-zero}
use native.Mathlib.Decide.{dec_lt}
use native.Mathlib.Omega.{arith}
use borrow.Author.Tests.{le-leb, lt-leb}
use lib.Dec.{leb}
use lib.ListN.{length, take, drop, length-append, length-drop, take-append-drop}
use lib.Seq.{paste, length-paste, length-take-le, take_all, take_at, drop-append-add, drop-drop}
use Rattle.ranges.proofs.Joined.{joined_none, joined_suc, joined_more}
use Rattle.encoding.specs.Bytes.{laid}
use Rattle.encoding.proofs.Bytes.{laid_whole}
use Rattle.texts.specs.Text.{text_over, end_in, put_in, Put, Wrote}

-- the same text by another name
pub wrote_as : {d t u e : List ℕ} {at r : ℕ} → t ≡ u → Wrote d at t e r → Wrote d at u e r
wrote_as x h = rw x at h

pub put_as : {d t u e : List ℕ} {at r : ℕ} → t ≡ u → Put at t d e r → Put at u d e r
put_as x h = rw x at h

-- nothing is written
pub wrote_none : (d : List ℕ) (at : ℕ) → at ≤ length d → Wrote d at [] d at
wrote_none d at h = record { room = omega arith; end = omega arith; same = refl; is = rw add-zero (sym (take-append-drop at d)) }

-- two writes, one after the other
module _ (d t u : List ℕ) (at : ℕ) (room : at + length t ≤ length d) where
  head : length (take at d ++ t) ≡ at + length t
  head = simp length-append (omega (arith, length-take-le at d (omega arith)))

  abbrev once : List ℕ
  once = take at d ++ (t ++ drop (at + length t) d)

  again : take (at + length t) once ++ (u ++ drop (at + length t + length u) once) ≡ take at d ++ ((t ++ u) ++ drop (at + length (t ++ u)) d)
  again =
      let n = at + length t in
      let D = drop n d in
      let P = take at d ++ t in
      let e = sym (append_assoc (take at d) t D) in
      let a : take n (take at d ++ (t ++ D)) ≡ P = ap (take n) e ∙ take_at P D n head in
      let z : drop (n + length u) (take at d ++ (t ++ D)) ≡ drop (n + length u) d =
      ap (drop (n + length u)) e ∙ ap (λ (k : ℕ). drop (k + length u) (P ++ D)) (sym head) ∙ drop-append-add P D (length u) ∙ drop-drop (length u) n d in
      rw (a, z) (simp (append_assoc, length-append, add_assoc))

pub then : {d e f t u : List ℕ} {at r s : ℕ} → Wrote d at t e r → Wrote e r u f s → Wrote d at (t ++ u) f s
then {d} {e} {f} {t} {u} {at} {r} {s} p q =
    record {
      room = omega (arith, p.end, p.same, q.room, length-append t u);
      end = omega (arith, p.end, q.end, length-append t u);
      same = q.same ∙ p.same;
      is =
          q.is
          ∙ ap (λ (x : List ℕ). take r x ++ (u ++ drop (r + length u) x)) p.is
          ∙ ap (λ (n : ℕ). take n (once d t u at p.room) ++ (u ++ drop (n + length u) (once d t u at p.room))) p.end
          ∙ again d t u at p.room;
    }

-- bytes that fit are laid over the buffer
pub wrote_laid : {d t e : List ℕ} {at : ℕ} → at + length t ≤ length d → e ≡ laid d at t → Wrote d at t e (at + length t)
wrote_laid {d} {t} {e} {at} room h =
    let all : take (length t) t ≡ t = take_all (length t) t (omega arith) in
    let is : e ≡ paste d at t (length t) = h ∙ ap (laid d at) (sym all) ∙ laid_whole d at t (length t) room (omega arith) in
    record {
      room = room;
      end = refl;
      same = ap length is ∙ length-paste d at t (length t) room (omega arith);
      is = is ∙ rw (all, append_assoc (take at d) t (drop (at + length t) d));
    }

-- texts one after the other
module _ (f : ℕ → List ℕ) where
  pub text_none : text_over f 0 ≡ []
  unfolding text_over
  text_none = joined_none ◌++◌ [] f

  text_suc : (n : ℕ) → text_over f (suc n) ≡ text_over f n ++ f n
  unfolding text_over
  text_suc n = joined_suc ◌++◌ [] f n

  pub text_more : (n : ℕ) → text_over f (n + 1) ≡ text_over f n ++ f n
  unfolding text_over
  text_more n = joined_more ◌++◌ [] f n

  -- each has at most b bytes
  pub text_short : (n b : ℕ) → ((k : ℕ) → k < n → length (f k) ≤ b) → length (text_over f n) ≤ n * b
  text_short zero b h = omega (arith, ap length text_none)
  text_short (suc n) b h =
      omega (arith, ap length (text_suc n), length-append (text_over f n) (f n), text_short n b (λ k l. h k (omega arith)), h n (omega arith))

  -- a text and those before it are no longer than all
  pub text_room : (n k : ℕ) → k < n → length (text_over f k) + length (f k) ≤ length (text_over f n)
  text_room zero k l = absurd (not-suc-le-zero l)
  text_room (suc n) k l = go (dec_lt k n) (text_room n k)
    where
      go :
          Dec (k < n)
          → (k < n → length (text_over f k) + length (f k) ≤ length (text_over f n))
          → length (text_over f k) + length (f k) ≤ length (text_over f (suc n))
      go (yes m) ih = omega (arith, ih m, ap length (text_suc n), length-append (text_over f n) (f n))
      go (no m) ih =
          let e : k ≡ n = omega arith in
          rw e (omega (arith, ap length (text_suc n), length-append (text_over f n) (f n)))

-- all or nothing
pub fits : {t d e : List ℕ} {at r : ℕ} → Wrote d at t e r → Put at t d e r
unfolding end_in put_in
fits {t} {d} {at = at} h =
    let b : leb (at + length t) (length d) ≡ true = le-leb (at + length t) (length d) h.room in
    record { end = rw b h.end; is = rw b h.is }

pub short : (at : ℕ) (t d : List ℕ) → length d < at + length t → Put at t d d at
unfolding end_in put_in
short at t d l =
    let b : leb (at + length t) (length d) ≡ false = lt-leb (at + length t) (length d) l in
    record { end = rw b; is = rw b }

-- where the buffer holds the text, it is written
pub fitted : {t d e : List ℕ} {at r : ℕ} → Put at t d e r → at + length t ≤ length d → Wrote d at t e r
unfolding end_in put_in
fitted {t} {d} {e} {at} {r} h l =
    let b : leb (at + length t) (length d) ≡ true = le-leb (at + length t) (length d) l in
    let end : r ≡ at + length t = rw b at h.end in
    let is : e ≡ take at d ++ (t ++ drop (at + length t) d) = rw b at h.is in
    let long : length (take at d ++ (t ++ drop (at + length t) d)) ≡ length d =
    simp length-append (omega (arith, length-take-le at d (omega arith), length-drop (at + length t) d)) in
    record { room = l; end = end; same = ap length is ∙ long; is = is }

-- what a call answers ends within the buffer that it wrote, so that the text can be taken out of it
pub within : (t d : List ℕ) {e : List ℕ} {r : ℕ} → Put 0 t d e r → r ≤ length e
within t d {e} {r} h = go (dec_lt (length d) (0 + length t))
  where
    go : Dec (length d < 0 + length t) → r ≤ length e
    go (yes l) = omega (arith, h.end, (short 0 t d l).end)
    go (no l) =
        let w = fitted h (omega arith) in
        omega (arith, w.end, w.room, w.same)

-- what was written at a buffer's start is its first part
pub taken : {t d e : List ℕ} {r : ℕ} → Wrote d 0 t e r → take r e ≡ t
taken {t} {d} {e} {r} h =
    let x : length t ≡ r = omega (arith, h.end) in
    ap (take r) h.is ∙ take_at t (drop (0 + length t) d) r x
