-- Laws of a sheet's bytes: their number, each of them, and that the bits of a byte are the quarters it was made of.
-- Assumes nothing.
use mathlib.Core.Path.{◌≡◌, refl, sym, ap, ◌∙◌}
use mathlib.Core.Bool.{Bool, true, false, ◌||◌}
use mathlib.Core.List.{List, [], ◌∷◌, ◌++◌}
use Prim.Native.Nat.{ℕ, zero, suc, ◌+◌, ◌-◌, ◌*◌, ◌/◌, ◌%◌, ◌^◌, ◌≤◌, ◌<◌}
use native.Mathlib.Decide.{dec_lt}
use native.Mathlib.Omega.{arith}
use borrow.Author.Tests.{lt-ltb, le-ltb}
use lib.Dec.{eqb}
use lib.ListN.{length, get_or, get_or-append}
use lib.Seq.{get_or-append-add}
use lib.Pow.{pow_mono}
use Rattle.std.specs.List.{list_any}
use Rattle.std.proofs.Math.Bool.{or-false}
use Rattle.ranges.specs.Ranges.{bit, in_base, digit_of, table}
use Rattle.ranges.proofs.Bools.{bit_le}
use Rattle.ranges.proofs.Tests.{count_cong}
use Rattle.ranges.proofs.Tables.{length_table, get_d_table}
use Rattle.ranges.proofs.Digits.{base_cong, base_lt, base_digit, base_back}
use Rattle.answers.specs.declared.Edition.{Edition}
use Rattle.answers.specs.Ruling.{day_quarters}
use Rattle.encoding.specs.Bytes.{format_version}
use Rattle.sheet.specs.Windows.{seasons, window_places, quarter_place, set_in, too_full}
use Rattle.sheet.specs.Bytes.{mark, windows_at, window_bytes, sheet_size, two_bytes, window_byte, bytes_of, byte_at, bit_of, bit_at, window_at, windows_in, season_bytes, set_from, season_full}
use Rattle.sheet.proofs.Windows.{too_full_law}

-- the quarters of a season, set in a sheet's windows or in their bytes: as many
pub season_set : (b : List ℕ) (j : ℕ) → j < seasons → set_in (windows_in b) (j + 1) ≡ set_from b (windows_at + season_bytes * j)
unfolding set_in set_from windows_in
season_set b j m = count_cong _ _ day_quarters each
  where
    each : (q : ℕ) → q < day_quarters → get_or (table (window_at b) window_places) (quarter_place (j + 1) q) false ≡ bit_at b (windows_at + season_bytes * j) q
    each q l =
        let p = quarter_place (j + 1) q in
        let byte : windows_at + p / 8 ≡ windows_at + season_bytes * j + q / 8 = omega arith in
        let bit : p % 8 ≡ q % 8 = omega arith in
        get_d_table (window_at b) window_places p false (omega arith) ∙ rw (byte, bit)

-- they are as many where the twelve bytes are the same
pub set_same : (a b : List ℕ) (i j : ℕ) → ((k : ℕ) → k < season_bytes → get_or a (i + k) 0 ≡ get_or b (j + k) 0) → set_from a i ≡ set_from b j
unfolding set_from
set_same a b i j h = count_cong _ _ day_quarters (λ q l. ap (λ (x : ℕ). bit_of x (q % 8)) (h (q / 8) (omega arith)))

-- four seasons in bytes, more than the limit set in one
pub full_bytes :
    (ed : Edition) (b : List ℕ)
    → (season_full ed b 8 || season_full ed b 20 || season_full ed b 32 || season_full ed b 44) ≡ too_full ed (windows_in b)
full_bytes ed b =
    too_full_law ed (windows_in b) _ _ _ _
    (sym (season_set b 0 (omega arith)))
    (sym (season_set b 1 (omega arith)))
    (sym (season_set b 2 (omega arith)))
    (sym (season_set b 3 (omega arith)))

-- the same by a list of the places where the seasons begin
pub any_full : (ed : Edition) (b : List ℕ) → list_any (season_full ed b) (8 ∷ 20 ∷ 32 ∷ 44 ∷ []) ≡ too_full ed (windows_in b)
any_full ed b = four (season_full ed b 8) (season_full ed b 20) (season_full ed b 32) (season_full ed b 44) ∙ full_bytes ed b
  where
    four : (p q r s : Bool) → (p || (q || (r || (s || false)))) ≡ (p || q || r || s)
    four true q r s = refl
    four false true r s = refl
    four false false true s = refl
    four false false false s = or-false s

-- a bit is the digit 0 or 1, and says whether it is set
bit_digit : (b : Bool) → eqb (bit b) 1 ≡ b
bit_digit true = refl
bit_digit false = refl

digit_bit : (d : ℕ) → d < 2 → bit (eqb d 1) ≡ d
digit_bit zero h = refl
digit_bit (suc zero) h = refl
digit_bit (suc (suc d)) h = absurd (omega arith)

-- a byte of eight quarters
module _ (w : List Bool) (k : ℕ) where
  abbrev pub quarter : ℕ → ℕ
  quarter j = bit (get_or w (8 * k + j) false)

  digits : (n : ℕ) (j : ℕ) → j < n → quarter j < 2
  digits n j l = omega (arith, bit_le (get_or w (8 * k + j) false))

  pub byte_lt : (n : ℕ) → n ≤ 8 → in_base 2 quarter n < 256
  byte_lt n h =
      let p : 2 ^ n ≤ 2 ^ 8 = pow_mono h in
      omega (arith, base_lt 2 (omega arith) quarter n (digits n))

  -- the quarters of a byte, back from its bits
  pub byte_bit : (j : ℕ) → j < 8 → bit_of (window_byte w k) j ≡ get_or w (8 * k + j) false
  unfolding window_byte
  byte_bit j h = ap (λ (d : ℕ). eqb d 1) (base_digit 2 (omega arith) quarter 8 j h (digits 8)) ∙ bit_digit (get_or w (8 * k + j) false)

-- a byte is its bits
pub bits_byte : (x : ℕ) → x < 256 → in_base 2 (λ j. bit (bit_of x j)) 8 ≡ x
bits_byte x h =
    base_cong 2 (λ j. bit (bit_of x j)) (digit_of 2 8 x) 8 (λ j l. digit_bit (digit_of 2 8 x j) (omega arith))
    ∙ base_back 2 (omega arith) 8 x h

-- the 56 bytes
pub length_bytes : (y l : ℕ) (w : List Bool) → length (bytes_of y l w) ≡ sheet_size
unfolding bytes_of
length_bytes y l w = rw (length_table (window_byte w) window_bytes)

-- the eight bytes before the windows
abbrev pub head_of : ℕ → ℕ → List ℕ
head_of y l = mark ++ (two_bytes format_version ++ (two_bytes y ++ (l ∷ [])))

-- byte i of the 56
pub byte_at_law : (y l : ℕ) (w : List Bool) (i : ℕ) → i < sheet_size → byte_at (head_of y l) w i ≡ get_or (bytes_of y l w) i 0
unfolding bytes_of
byte_at_law y l w i h = go (dec_lt i windows_at)
  where
    go : Dec (i < windows_at) → byte_at (head_of y l) w i ≡ get_or (head_of y l ++ table (window_byte w) window_bytes) i 0
    go (yes b) = simp (lt-ltb i windows_at b) (sym (get_or-append (head_of y l) (table (window_byte w) window_bytes) 0 i b))
    go (no b) =
        let e : windows_at + (i - windows_at) ≡ i = omega arith in
        simp (le-ltb i windows_at (omega arith))
        (sym (get_d_table (window_byte w) window_bytes (i - windows_at) 0 (omega arith))
        ∙ rw e at (sym (get_or-append-add (head_of y l) (table (window_byte w) window_bytes) (i - windows_at) 0)))
