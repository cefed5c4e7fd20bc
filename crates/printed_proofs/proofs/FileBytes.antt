-- Readings written as bytes, four each with the high byte first, are read back as they were; and a file whose header is
-- taken, and which holds its days and nothing else, is answered as its whole series is.
-- Assumes nothing.
use mathlib.Core.Path.{◌≡◌, refl, sym, ap, ◌∙◌}
use mathlib.Core.Bool.{false}
use mathlib.Core.List.{List, [], ◌∷◌, ◌++◌}
use Prim.Native.Nat.{ℕ, zero, suc, ◌+◌, ◌*◌, ◌/◌, ◌≤◌, ◌<◌}
use native.Mathlib.Nat.{not-suc-le-zero}
use native.Mathlib.Omega.{arith}
use borrow.Author.Tests.{le-ltb, eq-eqb}
use lib.ListN.{length, get_or, length-append, get_or-append}
use lib.Seq.{get_or-append-add}
use Rattle.ranges.specs.Ranges.{digit_of}
use Rattle.ranges.proofs.Tables.{length_table, get_d_table, is_table}
use Rattle.ranges.proofs.Digits.{base_cong, base_back}
use Rattle.answers.specs.Said.{Said, only}
use Rattle.answers.proofs.Laws.{next_speaks}
use Rattle.encoding.specs.Bytes.{four_at}
use Rattle.readings.specs.declared.Run.{Run}
use Rattle.readings.specs.Days.{series_answer}
use Rattle.fields.specs.Layout.{Layout, start_of, head_size, stops}
use Rattle.fields.specs.Series.{reading_bytes, readings_of, series_in, file_size}
use Rattle.fields.specs.File.{file_answer}
use Rattle.fields.proofs.Header.{field_rises, head_fine}
use Rattle.fields.proofs.Days.{days_series}
use Rattle.printed_proofs.specs.Examples.{four_bytes, series_bytes}

-- what four bytes can hold
abbrev pub word_end : ℕ
word_end = 4294967296

length_four : (x : ℕ) → length (four_bytes x) ≡ 4
unfolding four_bytes
length_four x = length_table (digit_of 256 reading_bytes x) reading_bytes

pub bytes_long : (xs : List ℕ) → length (series_bytes xs) ≡ reading_bytes * length xs
unfolding series_bytes
bytes_long [] = refl
bytes_long (x ∷ xs) = length-append (four_bytes x) (series_bytes xs) ∙ omega (arith, length_four x, bytes_long xs)

-- byte k of reading i, both from 0
byte_at_law : (xs : List ℕ) (i k : ℕ) → i < length xs → k < 4
    → get_or (series_bytes xs) (reading_bytes * i + k) 0 ≡ digit_of 256 reading_bytes (get_or xs i 0) k
unfolding series_bytes four_bytes
byte_at_law [] i k l m = absurd (not-suc-le-zero l)
byte_at_law (x ∷ xs) zero k l m =
    let e : reading_bytes * 0 + k ≡ k = omega arith in
    ap (λ (j : ℕ). get_or (four_bytes x ++ series_bytes xs) j 0) e
    ∙ get_or-append (four_bytes x) (series_bytes xs) 0 k (omega (arith, length_four x))
    ∙ get_d_table (digit_of 256 reading_bytes x) reading_bytes k 0 m
byte_at_law (x ∷ xs) (suc i) k l m =
    let e : reading_bytes * suc i + k ≡ length (four_bytes x) + (reading_bytes * i + k) = omega (arith, length_four x) in
    ap (λ (j : ℕ). get_or (four_bytes x ++ series_bytes xs) j 0) e
    ∙ get_or-append-add (four_bytes x) (series_bytes xs) (reading_bytes * i + k) 0
    ∙ byte_at_law xs i k (omega arith) m

module _ (xs : List ℕ) (low : (i : ℕ) → get_or xs i 0 < word_end) where
  four_back : (i : ℕ) → i < length xs → four_at (series_bytes xs) (reading_bytes * i) ≡ get_or xs i 0
  unfolding four_at
  four_back i l = base_cong 256 _ _ 4 (λ k m. byte_at_law xs i k l m) ∙ base_back 256 (omega arith) 4 (get_or xs i 0) (low i)

  pub readings_back : readings_of (series_bytes xs) ≡ xs
  unfolding readings_of
  readings_back =
      let n : length (series_bytes xs) / reading_bytes ≡ length xs = omega (arith, bytes_long xs) in
      rw n (sym (is_table (λ i. four_at (series_bytes xs) (reading_bytes * i)) (length xs) 0 xs refl (λ i l. sym (four_back i l))))

-- a file without a fault: no field of its header is refused, its size is right and its readings are legal
module _ (l : Layout) (bytes : List ℕ) (taken : (k : ℕ) → k < l.count → l.refusal k ≡ 0) where
  passes : head_size l ≤ length bytes → (k : ℕ) → k < l.count → stops l bytes k ≡ false
  passes long k m =
      simp (
        le-ltb (length bytes) (start_of l (k + 1)) (omega (arith, field_rises l l.count (k + 1) (omega arith))),
        eq-eqb (l.refusal k) 0 (taken k m),
      )

  pub file_whole :
      (run : Run) (limit : ℕ) (done : Said)
      → length bytes ≡ file_size run (head_size l)
      → only 0 ≡ series_answer run limit (series_in bytes (head_size l))
      → done ≡ file_answer l run limit done bytes
  file_whole run limit done size legal =
      next_speaks (only 0) done legal refl
      ∙ sym (days_series run (head_size l) bytes limit done size)
      ∙ next_speaks (only 0) _ (head_fine l bytes (record { fails = passes (omega arith) })) refl
