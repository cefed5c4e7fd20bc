-- Laws of a text that is written piece by piece: two writes, one after the other, are one; what a loop that writes
-- keeps; a text that is written from a buffer's start.
-- Assumes nothing.
use mathlib.Core.Path.{◌≡◌, refl, sym, ap, ◌∙◌}
use mathlib.Core.List.{List, [], ◌++◌}
use Prim.Native.Nat.{ℕ, ◌+◌, ◌≤◌, ◌<◌}
use native.Mathlib.Omega.{arith}
use lib.ListN.{length, take, length-append}
use Rattle.texts.specs.declared.Writer.{Writer}
use Rattle.texts.specs.Text.{text_over, Put, Wrote, HasRoom, Puts, Writes}
use Rattle.texts.proofs.Text as flat

-- the same text by another name
pub wrote_as : {s e : Writer} {t u : List ℕ} → t ≡ u → Writes s t e → Writes s u e
wrote_as x h = rw x at h

-- nothing is written
pub wrote_none : (s : Writer) → s.at ≤ length s.buf.now → Writes s [] s
wrote_none s h = record { lent = refl; wrote = flat.wrote_none _ _ h }

-- where the buffer holds the text, it is written
pub fitted : {s e : Writer} {t : List ℕ} → Puts s t e → HasRoom s t → Writes s t e
fitted h l = record { lent = h.lent; wrote = flat.fitted h.put l }

-- two writes, one after the other
pub then : {s e f : Writer} {t u : List ℕ} → Writes s t e → Writes e u f → Writes s (t ++ u) f
then p q = record { lent = q.lent ∙ p.lent; wrote = flat.then p.wrote q.wrote }

-- the second of them has room where both have
pub room_after : {s e : Writer} {t : List ℕ} → Writes s t e → (u : List ℕ) → HasRoom s (t ++ u) → HasRoom e u
room_after {t = t} w u l = omega (arith, w.wrote.end, w.wrote.same, l, length-append t u)

pub then_put : {s e f : Writer} {t u : List ℕ} → Writes s t e → Puts e u f → HasRoom s (t ++ u) → Writes s (t ++ u) f
then_put {u = u} w p l = then w (fitted p (room_after w u l))

-- what a loop that writes f 0, .. , f (m - 1) keeps: the first k are written
pub record Laid (f : ℕ → List ℕ) (m : ℕ) (s : Writer) (k : ℕ) (e : Writer) : Type 0 where
  pub some : k ≤ m
  pub room : HasRoom s (text_over f m)
  pub wrote : Writes s (text_over f k) e

module _ {f : ℕ → List ℕ} {m : ℕ} {s : Writer} where
  pub laid_none : HasRoom s (text_over f m) → Laid f m s 0 s
  laid_none h = record { some = omega arith; room = h; wrote = wrote_as (sym (flat.text_none f)) (wrote_none s (omega (arith, h))) }

  module _ {k : ℕ} {e : Writer} (h : Laid f m s k e) where
    pub laid_room : k < m → HasRoom e (f k)
    laid_room l = omega (arith, h.room, h.wrote.wrote.end, h.wrote.wrote.same, flat.text_room f m k l)

    pub laid_more : {g : Writer} → k < m → Writes e (f k) g → Laid f m s (k + 1) g
    laid_more l w = record { some = omega arith; room = h.room; wrote = wrote_as (sym (flat.text_more f k)) (then h.wrote w) }

    pub laid_all : m ≤ k → Writes s (text_over f m) e
    laid_all l =
        let x : k ≡ m = omega (arith, h.some) in
        wrote_as (ap (text_over f) x) h.wrote

-- the writer is done with: what it wrote is what the buffer that it was lent has then, d
pub done : {s e : Writer} {t d : List ℕ} → Writes s t e → d ≡ e.buf.now → Put s.at t s.buf.now d e.at
done w h =
    let p = flat.fits w.wrote in
    record { end = p.end; is = h ∙ p.is }

-- a text is made in an array of its own, m, and copied from there
pub copied : {s e : Writer} {t m d f : List ℕ} {r : ℕ} → Put 0 (take e.at m) d f r → Writes s t e → s.at ≡ 0 → m ≡ e.buf.now → Put 0 t d f r
copied {s} {e} {t} {m} put w start same =
    let v : Wrote s.buf.now 0 t e.buf.now e.at = rw start at w.wrote in
    flat.put_as (ap (take e.at) same ∙ flat.taken v) put
