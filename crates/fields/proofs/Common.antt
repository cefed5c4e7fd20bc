-- Laws of the fields that both headers have: what each looks at, its number by the code's tests, and what
-- a field that passes has shown.
-- Assumes nothing.
use mathlib.Core.Path.{◌≡◌, refl, sym, ap, ◌∙◌}
use mathlib.Core.Bool.{Bool, true, false, not}
use mathlib.Core.List.{List}
use Prim.Native.Nat.{ℕ, suc, ◌+◌, ◌<◌}
use native.Mathlib.Nat.{add-zero}
use native.Mathlib.Omega.{arith}
use lib.Dec.{eqb}
use lib.ListN.{get_or}
use Rattle.ranges.specs.Ranges.{number_if}
use Rattle.answers.specs.Ruling.{level_out}
use Rattle.answers.specs.Said.{Said, only}
use Rattle.editions.specs.declared.Editions.{Editions}
use Rattle.editions.specs.Editions.{year_out}
use Rattle.encoding.specs.Bytes.{mark_size, other_mark, format_version, two_at}
use Rattle.encoding.proofs.Bytes.{two_same, other_mark_same}
use Rattle.fields.specs.Layout.{Field}
use Rattle.fields.specs.Common.{mark_field, version_field, year_field, level_field}

-- a field of w bytes that looks at no other byte
abbrev pub Own : (List ℕ → Field) → ℕ → Type 0
Own f w = (b c : List ℕ) (i : ℕ) → ((j : ℕ) → j < w → get_or b (i + j) 0 ≡ get_or c (i + j) 0) → (f b).refused_at i ≡ (f c).refused_at i

pub one_same : (b c : List ℕ) (i : ℕ) → ((j : ℕ) → j < 1 → get_or b (i + j) 0 ≡ get_or c (i + j) 0) → get_or b i 0 ≡ get_or c i 0
one_same b c i h = rw (add-zero i) at (h 0 (omega arith))

pub mark_own : (m : List ℕ) → Own (mark_field m) mark_size
unfolding mark_field
mark_own m b c i h = ap (λ (t : Bool). number_if t 12) (other_mark_same b c i i m h)

pub version_own : Own version_field 2
unfolding version_field
version_own b c i h = ap (λ (x : ℕ). number_if (not (eqb x format_version)) 12) (two_same b c i i h)

pub year_own : (es : Editions) → Own (year_field es) 2
unfolding year_field
year_own es b c i h = ap (λ (x : ℕ). number_if (year_out es x) 1) (two_same b c i i h)

pub level_own : Own level_field 1
unfolding level_field
level_own b c i h = ap (λ (x : ℕ). number_if (level_out x) 2) (one_same b c i h)

-- the number of a field, by what the code has found
module _ (b : List ℕ) (i : ℕ) where
  pub mark_no : (m : List ℕ) {t : Bool} → t ≡ other_mark m b i → number_if t 12 ≡ (mark_field m b).refused_at i
  unfolding mark_field
  mark_no m e = ap (λ (t : Bool). number_if t 12) e

  pub version_no : {n : ℕ} → n ≡ two_at b i → number_if (not (eqb n format_version)) 12 ≡ (version_field b).refused_at i
  unfolding version_field
  version_no e = ap (λ (n : ℕ). number_if (not (eqb n format_version)) 12) e

  pub year_no : (es : Editions) {n : ℕ} {t : Bool} → n ≡ two_at b i → t ≡ year_out es n → number_if t 1 ≡ (year_field es b).refused_at i
  unfolding year_field
  year_no es e f = ap (λ (t : Bool). number_if t 1) (f ∙ ap (year_out es) e)

  pub level_no : {t : Bool} → t ≡ level_out (get_or b i 0) → number_if t 2 ≡ (level_field b).refused_at i
  unfolding level_field
  level_no e = ap (λ (t : Bool). number_if t 2) e

-- a field that is not refused has passed its test
pub unrefused : (t : Bool) (n : ℕ) → number_if t (suc n) ≡ 0 → t ≡ false
unrefused true n e = absurd (omega arith)
unrefused false n e = refl

-- one that is refused has failed it, and its number is the one beside the test
pub refused_as : {said : Said} (t : Bool) (n : ℕ) {r : ℕ} → number_if t (suc n) ≡ r → (r ≡ 0 → ⊥) → (t ≡ true → only (suc n) ≡ said) → said ≡ only r
refused_as true n e z h = sym (h refl) ∙ ap only e
refused_as false n e z h = absurd (z (sym e))
