-- The 56 bytes of a sheet, and what they mean: mark, version, year, level, and 12 bytes for the windows of each season.
-- Places of bytes count from 0, and numbers have the high byte first. Rules 5.1 and 5.2.
use Rattle.std.specs.Prelude.{Bool, false, cond, List, [], ◌∷◌, ◌++◌, ℕ, ◌+◌, ◌-◌, ◌*◌, ◌/◌, ◌%◌, ◌<◌, ltb, eqb, get_or}
use Rattle.ranges.specs.Ranges.{bit, count_over, table, in_base, digit_of}
use Rattle.answers.specs.declared.Edition.{Edition}
use Rattle.answers.specs.Ruling.{day_quarters}
use Rattle.encoding.specs.Bytes.{ascii, mark_size, version_size, year_size, level_size, other_mark, format_version, two_at}
use Rattle.sheet.specs.declared.Sheet.{Sheet}
use Rattle.sheet.specs.Windows.{window_places, too_many}

-- the mark, and the places where the fields start, in order: each starts where the one before it ends
abbrev pub mark : List ℕ
mark = ascii "HLZ"

abbrev pub version_at : ℕ
version_at = mark_size

abbrev pub year_at : ℕ
year_at = version_at + version_size

abbrev pub level_at : ℕ
level_at = year_at + year_size

abbrev pub windows_at : ℕ
windows_at = level_at + level_size

-- the bytes of the windows of all four seasons, and of a whole sheet
abbrev pub window_bytes : ℕ
window_bytes = 48

abbrev pub sheet_size : ℕ
sheet_size = windows_at + window_bytes

-- a number of 16 bits as two bytes, high byte first
abbrev pub two_bytes : ℕ → List ℕ
two_bytes n = n / 256 ∷ n % 256 ∷ []

-- byte k, from 0, of the 48 bytes of windows: eight quarters, the earliest is the highest bit (Rule 5.2)
unfoldable pub window_byte : List Bool → ℕ → ℕ
window_byte windows k = in_base 2 (λ j. bit (get_or windows (8 * k + j) false)) 8

-- the bytes of a sheet with this meaning
unfoldable pub bytes_of : ℕ → ℕ → List Bool → List ℕ
bytes_of year level windows =
    mark ++ (two_bytes format_version ++ (two_bytes year ++ ((level ∷ []) ++ table (window_byte windows) window_bytes)))

-- byte i, from 0, of a sheet with these first eight bytes, `head`
abbrev pub byte_at : List ℕ → List Bool → ℕ → ℕ
byte_at head windows i = cond (ltb i windows_at) (get_or head i 0) (window_byte windows (i - windows_at))

abbrev pub sheet_bytes : Sheet → List ℕ
sheet_bytes s = bytes_of s.year s.level s.windows

-- bit j of a byte, from 0 at the highest
abbrev pub bit_of : ℕ → ℕ → Bool
bit_of byte j = eqb (digit_of 2 8 byte j) 1

-- bit p, from 0, of the bytes from place i on
abbrev pub bit_at : List ℕ → ℕ → ℕ → Bool
bit_at b i p = bit_of (get_or b (i + p / 8) 0) (p % 8)

-- the meaning of a sheet's bytes: is the quarter at place p, from 0, of the windows set; all of them; the whole sheet
abbrev pub window_at : List ℕ → ℕ → Bool
window_at b p = bit_at b windows_at p

unfoldable pub windows_in : List ℕ → List Bool
windows_in b = table (window_at b) window_places

abbrev pub sheet_in : List ℕ → Sheet
sheet_in b = record { year = two_at b year_at; level = get_or b level_at 0; windows = windows_in b }

-- the first three bytes are another mark than "HLZ"
abbrev pub unmarked : List ℕ → Bool
unmarked b = other_mark mark b 0

-- a season has 12 bytes: how many quarters are set in those from place i on, and whether they are more than the limit
-- of an edition
abbrev pub season_bytes : ℕ
season_bytes = 12

unfoldable pub set_from : List ℕ → ℕ → ℕ
set_from b i = count_over (bit_at b i) day_quarters

abbrev pub season_full : Edition → List ℕ → ℕ → Bool
season_full ed b i = too_many ed (set_from b i)

-- a list of bytes, as a lent slice of them is: each is below 256
abbrev pub AreBytes : List ℕ → Type 0
AreBytes b = (i : ℕ) → get_or b i 0 < 256
