-- What a machine that reads a file comes to when it is driven over bytes, and what it leaves of them. Rules 10.4 and
-- 10.5.
use Rattle.std.specs.Prelude.{◌≡◌, List, ℕ, zero, suc, take, drop, Some}
use Rattle.std.specs.declared.option.Option.{Option}
use Rattle.fields.specs.File.{driven}
use Rattle.fields.specs.Machine.{Reader, wants, fed}

-- the bytes behind those that a number of turns took: in each turn as many as the machine wants
unfoldable pub unread : {S : Type 0} → (S → ℕ) → (S → List ℕ → S) → ℕ → S → List ℕ → List ℕ
unread wanted fed zero s bytes = bytes
unread wanted fed (suc n) s bytes = unread wanted fed n (fed s (take (wanted s) bytes)) (drop (wanted s) bytes)

-- what is promised of driving a machine from the state `start` over these bytes: the state then, and what is left
pub record Drives {F : Type 0} (r : Reader F) (turns : ℕ) (start : F) (bytes : List ℕ) (s : F) (known : Option (List ℕ)) : Type 0 where
  pub state : s ≡ driven (wants r) (fed r) turns start bytes
  pub left : known ≡ Some (unread (wants r) (fed r) turns start bytes)
