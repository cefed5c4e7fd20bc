-- When each number is answered, stated by equality, ≤ and < alone: its own condition holds, and that of no number
-- before it in the call's order. ed is the edition; b is the bytes that are read; s is the sheet that is written, and
-- `room` says how many bytes the lent buffer has. That specs/Answers agrees is proved in proofs/Exactly. Rules 5.3 and
-- 8.2.
use Rattle.std.specs.Prelude.{◌≡◌, List, ℕ, ◌≤◌, ◌<◌, length, get_or}
use Rattle.answers.specs.declared.Edition.{Edition}
use Rattle.answers.specs.Ruling.{HasYear, Level}
use Rattle.sheet.specs.declared.Sheet.{Sheet}
use Rattle.sheet.specs.Windows.{Roomy}
use Rattle.encoding.specs.Bytes.{format_version, two_at}
use Rattle.sheet.specs.Bytes.{mark, version_at, year_at, level_at, sheet_size, windows_in}

-- the three bytes of "HLZ" stand at the start
abbrev pub Marked : List ℕ → Type 0
Marked b = (k : ℕ) → k < version_at → get_or b k 0 ≡ get_or mark k 0

-- length, mark and version are as they should be
pub record Formed (b : List ℕ) : Type 0 where
  pub size : length b ≡ sheet_size
  pub marked : Marked b
  pub version : two_at b version_at ≡ format_version

pub data ReadRow (ed : Edition) (b : List ℕ) : ℕ → Type 0 where
  malformed : (Formed b → ⊥) → ReadRow ed b 12
  one : Formed b → (HasYear ed (two_at b year_at) → ⊥) → ReadRow ed b 1
  two : Formed b → HasYear ed (two_at b year_at) → (Level (get_or b level_at 0) → ⊥) → ReadRow ed b 2
  full : Formed b → HasYear ed (two_at b year_at) → Level (get_or b level_at 0) → (Roomy ed (windows_in b) → ⊥) → ReadRow ed b 12
  zero : Formed b → HasYear ed (two_at b year_at) → Level (get_or b level_at 0) → Roomy ed (windows_in b) → ReadRow ed b 0

pub data WriteRow (ed : Edition) (s : Sheet) (room : ℕ) : ℕ → Type 0 where
  fourteen : room < sheet_size → WriteRow ed s room 14
  one : sheet_size ≤ room → (HasYear ed s.year → ⊥) → WriteRow ed s room 1
  two : sheet_size ≤ room → HasYear ed s.year → (Level s.level → ⊥) → WriteRow ed s room 2
  twelve : sheet_size ≤ room → HasYear ed s.year → Level s.level → (Roomy ed s.windows → ⊥) → WriteRow ed s room 12
  zero : sheet_size ≤ room → HasYear ed s.year → Level s.level → Roomy ed s.windows → WriteRow ed s room 0
