use Rattle.std.proofs.Common.{◌≡◌, ℕ, ◌+◌, ◌-◌, ◌≤◌, List, ◌++◌, rules, arith, length, take, slice_range, sym, ap, ◌∙◌, subst, le_refl, drop_at, length-take-le}
use Rattle.std.proofs.lemmas.Slice.{take-put_mid_below}
use Rattle.std.specs.Io.KnownBytes.{Consumes}
use Rattle.std.proofs.KnownBytes.{Consumes-trans}
use borrow.Rule.Slice.PartMut.{put_mid, post_of}
use lib.Seq.{take-add, take-append-le}
use Rattle.inputs.proofs.read_full.Goals as goal

-- The first b bytes are the first a, which stayed as they were, and those between.
take_split : (a b : ℕ) (old new : List ℕ) → a ≤ b → take a new ≡ take a old
    → take a old ++ slice_range new a b ≡ take b new
take_split a b old new h front =
    let same : a + (b - a) ≡ b = omega arith in
    ap (λ l. l ++ slice_range new a b) (sym front) ∙ sym (take-add a (b - a) new) ∙ ap (λ n. take n new) same

-- What was read into a part stands between its place and the end of what was read.
slice_range-put_mid : (a k n : ℕ) (xs ys : List ℕ) → a ≤ length xs → n ≤ length ys
    → slice_range (put_mid a k xs ys) a (a + n) ≡ take n ys
slice_range-put_mid a k n xs ys within fits =
    let same : (a + n) - a ≡ n = omega arith in
    let after = post_of a k xs in
    ap (take ((a + n) - a)) (drop_at (take a xs) (ys ++ after) a (length-take-le a xs within))
    ∙ ap (λ m. take m (ys ++ after)) same ∙ take-append-le n ys after fits

-- A turn reads behind what was read before it.
pub loop-done-preserved : goal.loop-done-preserved
loop-done-preserved g c =
    let from = c.loop-done.done in
    let part = c.loop-done.part in
    let room = length part - from in
    let before = c.loop-done.invariant in
    let read = c.in_ok-n.ensures in
    let after = put_mid from room part c.read.new.buf in
    let behind = slice_range-put_mid from room c.in_ok-n.n part c.read.new.buf before.within read.bound.0 in
    let kept : take from after ≡ take from part = take-put_mid_below _ _ _ _ _ (le_refl _) before.within in
    let joined = take_split from (from + c.in_ok-n.n) part after (omega arith) kept in
    let all = Consumes-trans _ _ _ _ _ before.bytes read.bytes.0 in
    record {
      same_length = search rules;
      within = search rules;
      bytes = subst (Consumes _ _) (ap (λ l. take from part ++ l) (sym behind) ∙ joined) all;
    }
