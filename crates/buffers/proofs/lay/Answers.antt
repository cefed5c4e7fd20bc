-- `buffers::lay` meets its contract: the bytes that fit stand in the buffer's part from place `at` on.
-- Assumes nothing.
use Rattle.std.proofs.Common.{◌≡◌, ℕ, ◌-◌, ◌≤◌, min, List, ◌++◌, length, take, drop, sym, ◌∙◌, append_assoc, take-append-drop, drop-drop, arith}
use native.Mathlib.Decide.{dec_le}
use lib.Seq.{paste-zero}
use Rattle.encoding.specs.Bytes.{laid}
use Rattle.buffers.proofs.lay.Goals as goal

-- the part begins at the place, or at the buffer's end where the place lies behind it
fitted :
    (out b : List ℕ) (at from n k : ℕ) (part : List ℕ)
    → from ≡ min at (length out)
    → n ≡ min (length b) (length out - from)
    → k ≡ n
    → part ≡ take n b
    → take from out ++ (part ++ drop k (drop from out)) ≡ laid out at b
unfolding laid
fitted out b at from n k part e f s p = go (dec_le at (length out))
  where
    go : Dec (at ≤ length out) → take from out ++ (part ++ drop k (drop from out)) ≡ laid out at b
    go (yes h) =
        let same : from ≡ at = omega arith in
        let size : n ≡ min (length b) (length out - at) = omega arith in
        rw (p, s, size, same, drop-drop (min (length b) (length out - at)) at out)
        (sym (append_assoc (take at out) (take (min (length b) (length out - at)) b) _))
    go (no h) =
        let none : n ≡ 0 = omega arith in
        let size : min (length b) (length out - at) ≡ 0 = omega arith in
        rw (p, s, none, size) (take-append-drop from out ∙ paste-zero out at b)

pub returns : goal.returns
returns c = fitted _ _ _ _ _ _ _ c.min-from.ensures c.min-n.ensures (omega arith) c.copy_from_slice.ensures.after
