-- Laws of a file's bytes: the part that a machine is handed, a buffer with the header's bytes that came, and the
-- numbers and readings in bytes.
-- Assumes nothing.
use mathlib.Core.Path.{◌≡◌, sym, ap, ◌∙◌}
use mathlib.Core.List.{List, ◌++◌}
use Prim.Native.Nat.{ℕ, ◌+◌, ◌-◌, ◌*◌, ◌/◌, ◌≤◌, ◌<◌, min}
use native.Mathlib.Omega.{arith}
use lib.ListN.{length, get_or, take, drop, length-take, length-drop, get_or-append}
use lib.Seq.{paste, take-take, take-add, take_at, drop-drop, drop-append-add, length-take-le, get_or-take, get_or-drop, ext_get_or}
use Rattle.ranges.specs.Ranges.{table}
use Rattle.ranges.proofs.Tables.{length_table, get_d_table, is_table}
use Rattle.encoding.specs.Bytes.{four_at}
use Rattle.encoding.proofs.Bytes.{four_same}
use Rattle.readings.specs.Runs.{most_readings}
use Rattle.fields.specs.Series.{reading_bytes, readings_of, series_in}
use Rattle.fields.specs.File.{part}

-- the part of a file that a machine is handed
module _ (bytes : List ℕ) (at size : ℕ) where
  length_part : length (part bytes at size) ≡ min size (length bytes - at)
  length_part = length-take size (drop at bytes) ∙ ap (min size) (length-drop at bytes)

  pub part_short : length bytes < at + size → 0 < size → length (part bytes at size) < size
  part_short h s = omega (arith, length_part)

  pub part_long : at + size ≤ length bytes → length (part bytes at size) ≡ size
  part_long h = omega (arith, length_part)

  pub part_none : length bytes ≤ at → length (part bytes at size) ≡ 0
  part_none h = omega (arith, length_part)

  pub part_at : (i : ℕ) → i < size → get_or (part bytes at size) i 0 ≡ get_or bytes (at + i) 0
  part_at i l = get_or-take size (drop at bytes) i 0 l ∙ get_or-drop at bytes i 0

-- two lists have the same first n bytes
abbrev pub Same : ℕ → List ℕ → List ℕ → Type 0
Same n a b = (i : ℕ) → i < n → get_or a i 0 ≡ get_or b i 0

-- a buffer that holds the first bytes of a file: the same bytes, and one field more
pub buffer_same : (buffer bytes : List ℕ) (n : ℕ) → n ≤ length bytes → Same n (take n bytes ++ drop n buffer) bytes
buffer_same buffer bytes n h i l =
    get_or-append (take n bytes) (drop n buffer) 0 i (omega (arith, length-take-le n bytes h)) ∙ get_or-take n bytes i 0 l

pub buffer_more :
    (buffer bytes : List ℕ) (at size : ℕ)
    → at + size ≤ length bytes
    → paste (take at bytes ++ drop at buffer) at (part bytes at size) size ≡ take (at + size) bytes ++ drop (at + size) buffer
buffer_more buffer bytes at size h =
    let n : length (take at bytes) ≡ at = length-take-le at bytes (omega arith) in
    let front : take at (take at bytes ++ drop at buffer) ≡ take at bytes = take_at (take at bytes) (drop at buffer) at n in
    let back : drop (at + size) (take at bytes ++ drop at buffer) ≡ drop (at + size) buffer =
    ap (λ (k : ℕ). drop (k + size) (take at bytes ++ drop at buffer)) (sym n)
    ∙ drop-append-add (take at bytes) (drop at buffer) size
    ∙ drop-drop size at buffer in
    rw (front, back, take-take size size (drop at bytes) (omega arith), take-add at size bytes)

-- four bytes
pub four_part : (bytes : List ℕ) (at size i : ℕ) → i + reading_bytes ≤ size → four_at (part bytes at size) i ≡ four_at bytes (at + i)
four_part bytes at size i l =
    four_same (part bytes at size) bytes i (at + i)
    (λ k b. let e : at + (i + k) ≡ at + i + k = omega arith in part_at bytes at size (i + k) (omega arith) ∙ ap (λ (n : ℕ). get_or bytes n 0) e)

four_drop : (bytes : List ℕ) (h i : ℕ) → four_at (drop h bytes) i ≡ four_at bytes (h + i)
four_drop bytes h i =
    four_same (drop h bytes) bytes i (h + i)
    (λ k b. let e : h + (i + k) ≡ h + i + k = omega arith in get_or-drop h bytes (i + k) 0 ∙ ap (λ (n : ℕ). get_or bytes n 0) e)

-- the readings that the code takes from a day's bytes are those that the bytes hold
four_take : (b : List ℕ) (size i : ℕ) → i + reading_bytes ≤ size → four_at (take size b) i ≡ four_at b i
four_take b size i l = four_same (take size b) b i i (λ k m. get_or-take size b (i + k) 0 (omega arith))

pub readings_held :
    (b : List ℕ) (n : ℕ)
    → n ≤ most_readings
    → reading_bytes * n ≤ length b
    → take n (table (λ i. four_at b (reading_bytes * i)) most_readings) ≡ readings_of (take (reading_bytes * n) b)
unfolding readings_of
readings_held b n few h =
    let xs = table (λ (i : ℕ). four_at b (reading_bytes * i)) most_readings in
    let long : length xs ≡ most_readings = length_table _ most_readings in
    let size : length (take (reading_bytes * n) b) / reading_bytes ≡ n = omega (arith, length-take-le (reading_bytes * n) b h) in
    rw size
    (is_table (λ i. four_at (take (reading_bytes * n) b) (reading_bytes * i)) n 0 (take n xs)
    (length-take-le n xs (omega arith))
    (λ i l. get_or-take n xs i 0 l ∙ get_d_table _ most_readings i 0 (omega arith) ∙ sym (four_take b (reading_bytes * n) (reading_bytes * i) (omega arith))))

-- the readings that bytes hold
module _ (b : List ℕ) where
  pub length_readings : length (readings_of b) ≡ length b / reading_bytes
  unfolding readings_of
  length_readings = length_table _ (length b / reading_bytes)

  pub readings_at : (i : ℕ) → i < length b / reading_bytes → get_or (readings_of b) i 0 ≡ four_at b (reading_bytes * i)
  unfolding readings_of
  readings_at i l = get_d_table _ (length b / reading_bytes) i 0 l

module _ (bytes : List ℕ) (h : ℕ) where
  pub length_series : length (series_in bytes h) ≡ (length bytes - h) / reading_bytes
  length_series = length_readings (drop h bytes) ∙ ap (λ (n : ℕ). n / reading_bytes) (length-drop h bytes)

  pub series_at : (i : ℕ) → h + reading_bytes * (i + 1) ≤ length bytes → get_or (series_in bytes h) i 0 ≡ four_at bytes (h + reading_bytes * i)
  series_at i l =
      readings_at (drop h bytes) i (omega (arith, length-drop h bytes)) ∙ four_drop bytes h (reading_bytes * i)

  -- the readings in a part of a file are that part of its series
  module _ (at size : ℕ) (l : h + reading_bytes * (at + size) ≤ length bytes) where
    abbrev b : List ℕ
    b = part bytes (h + reading_bytes * at) (reading_bytes * size)

    abbrev xs : List ℕ
    xs = series_in bytes h

    long : length b ≡ reading_bytes * size
    long = part_long bytes (h + reading_bytes * at) (reading_bytes * size) (omega arith)

    left : length (readings_of b) ≡ size
    left = omega (arith, length_readings b, long)

    right : length (take size (drop at xs)) ≡ size
    right = omega (arith, length-take size (drop at xs), length-drop at xs, length_series)

    each : (i : ℕ) → i < size → get_or (readings_of b) i 0 ≡ get_or (take size (drop at xs)) i 0
    each i m =
        let e : h + reading_bytes * at + reading_bytes * i ≡ h + reading_bytes * (at + i) = omega arith in
        readings_at b i (omega (arith, long))
        ∙ four_part bytes (h + reading_bytes * at) (reading_bytes * size) (reading_bytes * i) (omega arith)
        ∙ ap (four_at bytes) e
        ∙ sym (series_at (at + i) (omega arith))
        ∙ sym (get_or-drop at xs i 0)
        ∙ sym (get_or-take size (drop at xs) i 0 m)

    pub readings_part : readings_of b ≡ take size (drop at xs)
    readings_part = ext_get_or 0 (readings_of b) (take size (drop at xs)) (left ∙ sym right) (λ i m. each i (omega (arith, left)))
