use mathlib.Core.Path.{◌≡◌, refl, sym, ap, ◌∙◌}
use mathlib.Core.Bool.{Bool, true, false}
use mathlib.Core.List.{List}
use Prim.Native.Nat.{ℕ, ◌+◌, ◌-◌, ◌*◌, ◌≤◌, ◌<◌}
use native.Mathlib.Omega.{arith}
use lib.ListN.{drop}
use Rattle.std.specs.Int.{from_bool}
use Rattle.std.proofs.lemmas.List.{get_or-take, get_or-drop}
use Rattle.ranges.specs.Ranges.{bit, in_base}
use Rattle.sheet.specs.Bytes.{window_byte}
use Rattle.ranges.proofs.Digits.{base_none, base_more}
use Rattle.sheet.proofs.Bytes.{quarter, byte_lt}
use Rattle.sheet_write.proofs.pack.Goals as goal

-- yes or no as a number
is_bit : (b : Bool) → from_bool b ≡ bit b
is_bit true = refl
is_bit false = refl

-- a turn of the loop
packs :
    (w : List Bool) (k n : ℕ) {v b : ℕ}
    → n < 8
    → v ≡ in_base 2 (quarter w k) n
    → b ≡ quarter w k n
    → (n + 1 ≤ 8) × (2 * v + b < 256) × (2 * v + b ≡ in_base 2 (quarter w k) (n + 1))
packs w k n {v} {b} h e f =
    let r : 2 * v + b ≡ in_base 2 (quarter w k) (n + 1) = rw (base_more, e, f) in
    (omega arith, omega (arith, byte_lt w k (n + 1) (omega arith)), r)

pub loop-set-preserved : goal.loop-set-preserved
loop-set-preserved c =
    let a = c.args in
    let n = c.loop-set.set-index in
    let set = get_or-take (8 * a.k + 8 - 8 * a.k) (drop (8 * a.k) a.windows.now) n false (omega arith) ∙ get_or-drop (8 * a.k) a.windows.now n false in
    packs a.windows.now a.k _ (omega arith) c.loop-set.invariant.2 (c.from.ensures ∙ is_bit _ ∙ ap bit set)

pub returns : goal.returns
unfolding window_byte
returns c = let e : c.loop-set.set-index ≡ 8 = omega arith in rw e at c.loop-set.invariant.2

pub loop-set-init : goal.loop-set-init
loop-set-init c = (omega arith, omega arith, sym (base_none 2 _))
