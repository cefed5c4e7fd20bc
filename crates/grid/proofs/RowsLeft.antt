-- What the loop over the seasons knows of the rows that are not written yet.
-- Assumes nothing.
use mathlib.Core.Path.{◌≡◌, ap, ◌∙◌}
use mathlib.Core.List.{List, [], ◌∷◌}
use Prim.Native.Nat.{ℕ, zero, suc, ◌+◌, ◌<◌, ◌≤◌}
use native.Mathlib.Omega.{arith}
use lib.ListN.{length, get_or, set}
use lib.Seq.{get_or-set_other}
use Rattle.answers.specs.Ruling.{day_quarters}
use Rattle.sheet.specs.Windows.{seasons}

-- the rows from s on have a day's quarters
pub record Left (s : ℕ) (out : List (List ℕ)) : Type 0 where
  pub long : (k : ℕ) → s ≤ k → k < seasons → length (get_or out k []) ≡ day_quarters

-- one less once a row is written
pub left_less : (out : List (List ℕ)) (s : ℕ) (row : List ℕ) → Left s out → Left (s + 1) (set out s row)
left_less out s row h = record { long = λ k b l. ap length (get_or-set_other out s k row [] (omega arith)) ∙ h.long k (omega arith) l }

-- and all four, where none is written
pub left_all : (row : List ℕ) → length row ≡ day_quarters → Left 0 (row ∷ row ∷ row ∷ row ∷ [])
left_all row e = record { long = go }
  where
    go : (k : ℕ) → 0 ≤ k → k < seasons → length (get_or (row ∷ row ∷ row ∷ row ∷ []) k []) ≡ day_quarters
    go zero z l = e
    go (suc zero) z l = e
    go (suc (suc zero)) z l = e
    go (suc (suc (suc zero))) z l = e
    go (suc (suc (suc (suc k)))) z l = absurd (omega arith)
