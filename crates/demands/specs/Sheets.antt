-- A sheet and its bytes: where each part of its meaning stands, that a written sheet reads back as the same windows,
-- and that one meaning has one list of bytes. Rules 5.1, 5.2, 5.4 and 12.2.
use Rattle.std.specs.Prelude.{◌≡◌, true, ◌↔◌, List, ℕ, ◌+◌, ◌-◌, ◌*◌, ◌/◌, ◌%◌, ◌^◌, ◌<◌, length, get_or, take, drop}
use Rattle.ranges.specs.Limits.{Within}
use Rattle.answers.specs.Said.{only}
use Rattle.editions.specs.declared.Editions.{Editions}
use Rattle.sheet.specs.declared.Sheet.{Sheet}
use Rattle.sheet.specs.Windows.{window_places, is_set}
use Rattle.sheet.specs.Bytes.{AreBytes}
use Rattle.demands.specs.Module.{Module}

-- the bytes b, from place 0, are those of sheet s: the mark HLZ, version 1, year and level, high bytes first; then bit
-- 7 - q % 8 (7 is the top bit) of byte 8 + 12 (n - 1) + q / 8 is set exactly when quarter q, from 0, of season n, from
-- 1, is a window
pub record LaidOut (b : List ℕ) (s : Sheet) : Type 0 where
  pub size : length b ≡ 56
  pub h : get_or b 0 0 ≡ 72
  pub l : get_or b 1 0 ≡ 76
  pub z : get_or b 2 0 ≡ 90
  pub version : 256 * get_or b 3 0 + get_or b 4 0 ≡ 1
  pub year : 256 * get_or b 5 0 + get_or b 6 0 ≡ s.year
  pub level : get_or b 7 0 ≡ s.level
  pub windows :
      (n q : ℕ)
      → Within 1 4 n
      → q < 96
      → (get_or b (8 + 12 * (n - 1) + q / 8) 0 / 2 ^ (7 - q % 8) % 2 ≡ 1) ↔ (is_set s.windows n q ≡ true)

-- A sheet's array of windows has 384 places, 96 for each season, and a lent slice is of bytes: `AreBytes` says that
-- each entry is below 256.
pub record Sheets (m : Module) : Type 0 where
  -- an accepted sheet stands in the first 56 bytes, and the others stay as they were (Rule 8.3)
  pub written_so :
      (es : Editions) (s : Sheet) (buffer : List ℕ)
      → length s.windows ≡ window_places
      → (m.write es s (length buffer)).number ≡ 0
      → LaidOut (take 56 (m.written es s buffer)) s
  pub rest_stays : (es : Editions) (s : Sheet) (buffer : List ℕ) → (m.write es s (length buffer)).number ≡ 0 → drop 56 (m.written es s buffer) ≡ drop 56 buffer
  -- what is read is what stands there
  pub read_so : (es : Editions) (b : List ℕ) → (m.read es b).number ≡ 0 → LaidOut b (m.sheet_read es b)
  -- so what is written reads back as the same windows, and one meaning has one list of bytes, whatever the lists of
  -- editions
  pub reads_back :
      (es : Editions) (s : Sheet) (buffer : List ℕ)
      → length s.windows ≡ window_places
      → (m.write es s (length buffer)).number ≡ 0
      → (m.read es (take 56 (m.written es s buffer)) ≡ only 0) × (m.sheet_read es (take 56 (m.written es s buffer)) ≡ s)
  pub same_bytes :
      (es fs : Editions) (b c : List ℕ)
      → AreBytes b
      → AreBytes c
      → (m.read es b).number ≡ 0
      → (m.read fs c).number ≡ 0
      → m.sheet_read es b ≡ m.sheet_read fs c
      → b ≡ c
