use mathlib.Core.Path.{◌≡◌, refl, sym, ap, ◌∙◌}
use mathlib.Core.List.{List, [], ◌∷◌, ◌++◌}
use Prim.Native.Nat.{ℕ, ◌/◌, ◌%◌}
use lib.ListN.{get_or, drop}
use lib.Seq.{length-take-le}
use native.Mathlib.Omega.{arith}
use Rattle.sheet.specs.Bytes.{sheet_size, bytes_of, byte_at}
use Rattle.ranges.proofs.Tables.{is_table, filled_none, filled_more, filled_all}
use Rattle.sheet.proofs.Bytes.{length_bytes, head_of, byte_at_law}
use Rattle.sheet_write.proofs.fill.Goals as goal

pub loop-i-init : goal.loop-i-init
loop-i-init c = filled_none (length-take-le _ _ c.requires)

pub loop-i-preserved : goal.loop-i-preserved
loop-i-preserved c =
    let a = c.args in
    let size = length_bytes a.year a.level a.windows.now in
    let high : a.year / 256 % 256 ≡ a.year / 256 = omega arith in
    let years = c.to_be_bytes-2.result in
    let head : List ℕ → List ℕ → List ℕ = λ v y. 72 ∷ 76 ∷ 90 ∷ get_or v 0 0 ∷ get_or v 1 0 ∷ get_or y 0 0 ∷ get_or y 1 0 ∷ a.level ∷ [] in
    let is : head c.to_be_bytes.result years ≡ head_of a.year a.level =
    ap (λ (v : List ℕ). head v years) c.to_be_bytes.ensures
    ∙ ap (λ (y : List ℕ). 72 ∷ 76 ∷ 90 ∷ 0 ∷ 1 ∷ get_or y 0 0 ∷ get_or y 1 0 ∷ a.level ∷ []) c.to_be_bytes-2.ensures
    ∙ ap (λ (h : ℕ). 72 ∷ 76 ∷ 90 ∷ 0 ∷ 1 ∷ h ∷ a.year % 256 ∷ a.level ∷ []) high in
    let its_byte = byte_at_law a.year a.level a.windows.now c.loop-i.i (omega (arith, c.loop-i.invariant.long)) in
    filled_more c.loop-i.invariant (omega (arith, c.loop-i.invariant.long))
    (c.byte_at.ensures ∙ ap (λ (h : List ℕ). byte_at h a.windows.now c.loop-i.i) is ∙ its_byte)

pub returns : goal.returns
returns c =
    let a = c.args in
    let bytes = bytes_of a.year a.level a.windows.now in
    let h = c.loop-i.invariant in
    let written = filled_all h (omega (arith, h.long)) ∙ sym (is_table _ sheet_size 0 bytes (length_bytes a.year a.level a.windows.now) (λ k l. refl)) in
    ap (λ (front : List ℕ). front ++ drop sheet_size a.out.now) written
