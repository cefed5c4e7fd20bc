-- Text, numbers, marks and versions in the bytes b of a sheet or a file. A number has its high byte first; the sheet
-- and both files begin with a mark of three bytes and a version. Places i of bytes count from 0, and behind the last
-- byte there is 0. Rules 5.1 and 10.1 to 10.3.
use Rattle.std.specs.Prelude.{Bool, not, List, [], ◌∷◌, ℕ, zero, suc, ◌+◌, ◌-◌, min, eqb, length, get_or}
use Prim.Native.Char.{code}
use Prim.Native.String.{String, len, char_at}
use Rattle.std.proofs.Math.Seq.{paste}
use Rattle.ranges.specs.Ranges.{any_over, in_base}

-- a text as bytes, in ASCII: the codes of its n characters from place i on; and all of them
abbrev pub codes_from : String → ℕ → ℕ → List ℕ
codes_from text i zero = []
codes_from text i (suc n) = code (char_at text i) ∷ codes_from text (suc i) n

abbrev pub ascii : String → List ℕ
ascii text = codes_from text 0 (len text)

-- the number of 16 bits at place i, and the number of 32 bits
unfoldable pub two_at : List ℕ → ℕ → ℕ
two_at b i = in_base 256 (λ k. get_or b (i + k) 0) 2

unfoldable pub four_at : List ℕ → ℕ → ℕ
four_at b i = in_base 256 (λ k. get_or b (i + k) 0) 4

-- how many bytes a mark, a version, a year and a level have
abbrev pub mark_size : ℕ
mark_size = 3

abbrev pub version_size : ℕ
version_size = 2

abbrev pub year_size : ℕ
year_size = 2

abbrev pub level_size : ℕ
level_size = 1

-- are the bytes at place i another mark than this one?
unfoldable pub other_mark : List ℕ → List ℕ → ℕ → Bool
other_mark mark b i = any_over (λ k. not (eqb (get_or b (i + k) 0) (get_or mark k 0))) mark_size

-- the version is 1; are the 16 bits at place i another one?
abbrev pub format_version : ℕ
format_version = 1

abbrev pub version_out : List ℕ → ℕ → Bool
version_out b i = not (eqb (two_at b i) format_version)

-- the buffer `out` over which bytes b are laid from place `at` on, as many as fit; all others stay
unfoldable pub laid : List ℕ → ℕ → List ℕ → List ℕ
laid out at b = paste out at b (min (length b) (length out - at))
