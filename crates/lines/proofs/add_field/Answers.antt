-- `lines::add_field` meets its contract: a space, unless the field is the first, and the number behind it.
-- Assumes nothing.
use mathlib.Core.Path.{◌≡◌, ap}
use mathlib.Core.List.{[], ◌∷◌}
use Prim.Native.Nat.{ℕ}
use native.Mathlib.Omega.{arith}
use lib.ListN.{length}
use Rattle.texts.specs.declared.Writer.{Writer}
use Rattle.texts.specs.Text.{HasRoom, Puts, Writes}
use Rattle.texts.proofs.Writing.{wrote_as, fitted, then}
use Rattle.lines.specs.Figures.{field_of}
use Rattle.lines.proofs.Figures.{field_first, field_next}
use Rattle.lines.proofs.add_field.Goals.{then-i-ne0, else-i-ne0}
use Rattle.lines.proofs.add_field.Goals as goal

-- the space has room
spaced : {s e : Writer} (i x : ℕ) → (i ≡ 0 → ⊥) → HasRoom s (field_of i x) → Puts s (32 ∷ []) e → Writes s (32 ∷ []) e
spaced i x n room put = fitted put (omega (arith, room, ap length (field_next i x n)))

pub add_number-requires : goal.add_number-requires
add_number-requires c =
    let a = c.args in
    elim c.if-i-ne0.branch [
      | then-i-ne0 w ↦
          let s = spaced a.i a.x w.if-i-ne0.true c.requires w.add.ensures in
          rw w.text-is (omega (arith, c.requires, ap length (field_next a.i a.x w.if-i-ne0.true), s.wrote.end, s.wrote.same))
      | else-i-ne0 w ↦ rw (w.text-is, field_first a.i a.x w.if-i-ne0.false) c.requires
    ]

pub returns : goal.returns
returns c =
    let a = c.args in
    elim c.if-i-ne0.branch [
      | then-i-ne0 w ↦
          wrote_as (field_next a.i a.x w.if-i-ne0.true)
          (then (spaced a.i a.x w.if-i-ne0.true c.requires w.add.ensures) (rw w.text-is at c.add_number.ensures))
      | else-i-ne0 w ↦ wrote_as (field_first a.i a.x w.if-i-ne0.false) (rw w.text-is at c.add_number.ensures)
    ]
