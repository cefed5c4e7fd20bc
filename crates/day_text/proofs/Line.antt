-- The line of a day, piece by piece, in the 40 bytes that it is laid in: each piece fits behind the one before it.
-- Assumes nothing.
use mathlib.Core.Path.{◌≡◌}
use mathlib.Core.List.{List, [], ◌∷◌, ◌++◌, append_assoc}
use Prim.Native.Nat.{ℕ, ◌≤◌}
use native.Mathlib.Omega.{arith}
use lib.ListN.{length, take, length-append, length-take}
use Rattle.texts.specs.declared.Writer.{Writer}
use Rattle.texts.specs.Text.{Puts, Writes}
use Rattle.texts.proofs.Writing.{wrote_as, fitted, then_put}

-- the date, a space, the weekday's name, a space, the word and a line feed: 32 bytes at most
pub lined :
    (b : List ℕ) {name word : List ℕ} {s one two three four five six : Writer}
    → length name ≤ 9
    → length word ≤ 10
    → s.at ≡ 0
    → length s.buf.now ≡ 40
    → Puts s (take 10 b) one
    → Puts one (32 ∷ []) two
    → Puts two name three
    → Puts three (32 ∷ []) four
    → Puts four word five
    → Puts five (10 ∷ []) six
    → Writes s (take 10 b ++ ((32 ∷ []) ++ (name ++ ((32 ∷ []) ++ (word ++ (10 ∷ [])))))) six
lined b {name} {word} n w start long p q r t u v =
    let d = take 10 b in
    let date = length-take 10 b in
    let d2 = length-append d (32 ∷ []) in
    let d3 = length-append (d ++ (32 ∷ [])) name in
    let d4 = length-append (d ++ (32 ∷ []) ++ name) (32 ∷ []) in
    let d5 = length-append (d ++ (32 ∷ []) ++ name ++ (32 ∷ [])) word in
    let d6 = length-append (d ++ (32 ∷ []) ++ name ++ (32 ∷ []) ++ word) (10 ∷ []) in
    let one = fitted p (omega (arith, start, long, date)) in
    let two = then_put one q (omega (arith, start, long, date, d2)) in
    let three = then_put two r (omega (arith, start, long, date, d2, d3, n)) in
    let four = then_put three t (omega (arith, start, long, date, d2, d3, d4, n)) in
    let five = then_put four u (omega (arith, start, long, date, d2, d3, d4, d5, n, w)) in
    wrote_as (simp append_assoc) (then_put five v (omega (arith, start, long, date, d2, d3, d4, d5, d6, n, w)))
