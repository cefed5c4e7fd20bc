-- Rule 12.2 for the sheet: what is written reads back as the same meaning, what is read is written back as the same
-- bytes; so two accepted sheets with one meaning have the same bytes, and two meanings never share bytes.
-- Assumes nothing.
use mathlib.Core.Path.{◌≡◌, refl, sym, ap, ◌∙◌}
use mathlib.Core.Bool.{Bool, false}
use mathlib.Core.List.{List, [], ◌∷◌, ◌++◌}
use Prim.Native.Nat.{ℕ, zero, suc, ◌+◌, ◌-◌, ◌*◌, ◌/◌, ◌%◌, ◌<◌}
use native.Mathlib.Decide.{dec_lt}
use native.Mathlib.Omega.{arith}
use borrow.Author.Tests.{lt-ltb, le-ltb}
use lib.ListN.{get_or-append, length, get_or, take, drop, replicate, length-replicate, get_or-replicate}
use lib.Seq.{ext_get_or, take_at}
use Rattle.ranges.specs.Limits.{Within}
use Rattle.ranges.specs.Ranges.{bit, table}
use Rattle.ranges.proofs.Tests.{count_fails}
use Rattle.ranges.proofs.Tables.{length_table, get_d_table, is_table}
use Rattle.ranges.proofs.Digits.{base_cong}
use Rattle.answers.specs.declared.Edition.{Edition}
use Rattle.answers.specs.Ruling.{day_quarters, HasYear, Level}
use Rattle.answers.specs.Said.{only}
use Rattle.answers.proofs.Laws.{has_year, level_of}
use Rattle.sheet.specs.declared.Sheet.{Sheet}
use Rattle.sheet.specs.Windows.{seasons, window_places, quarter_place, set_in, LegalSheet}
use Rattle.encoding.specs.Bytes.{format_version, two_at}
use Rattle.encoding.proofs.Bytes.{two_bytes_law}
use Rattle.sheet.specs.Bytes.{mark, version_at, year_at, level_at, windows_at, window_bytes, sheet_size, two_bytes, window_byte, bytes_of, byte_at, sheet_bytes, bit_of, window_at, windows_in, sheet_in, AreBytes}
use Rattle.sheet.specs.Rows.ReadRow.{zero}
use Rattle.sheet.specs.Rows.WriteRow.{zero}
use Rattle.sheet.specs.Rows.{Formed, ReadRow, WriteRow}
use Rattle.sheet.specs.Answers.{read_answer, read_sheet, read_of, ReadSaid, write_answer, written}
use Rattle.sheet.proofs.Windows.{roomy}
use Rattle.sheet.proofs.Bytes.{byte_bit, bits_byte, length_bytes, head_of, byte_at_law}
use Rattle.sheet.proofs.Exactly.{read_exactly, write_exactly}
use Rattle.sheet.proofs.Answered.{read_accepted, read_taken, write_accepted, write_taken}

-- Reading what was written
module _ (y l : ℕ) (w : List Bool) where
  -- byte k of the windows
  byte_written : (k : ℕ) → k < window_bytes → get_or (bytes_of y l w) (windows_at + k) 0 ≡ window_byte w k
  byte_written k h =
      let e : windows_at + k - windows_at ≡ k = omega arith in
      sym (byte_at_law y l w (windows_at + k) (omega arith)) ∙ simp (le-ltb (windows_at + k) windows_at (omega arith), e)

  window_written : (p : ℕ) → p < window_places → window_at (bytes_of y l w) p ≡ get_or w p false
  window_written p h =
      let e : 8 * (p / 8) + p % 8 ≡ p = omega arith in
      rw (byte_written (p / 8) (omega arith)) (rw e at (byte_bit w (p / 8) (p % 8) (omega arith)))

  windows_written : length w ≡ window_places → windows_in (bytes_of y l w) ≡ w
  unfolding windows_in
  windows_written h = sym (is_table (window_at (bytes_of y l w)) window_places false w h (λ p b. sym (window_written p b)))

  year_written : two_at (bytes_of y l w) year_at ≡ y
  unfolding bytes_of
  year_written = omega (arith, two_bytes_law (bytes_of y l w) year_at)

  level_written : get_or (bytes_of y l w) level_at 0 ≡ l
  unfolding bytes_of
  level_written = refl

  formed : Formed (bytes_of y l w)
  unfolding bytes_of
  formed =
      let rest = two_bytes format_version ++ (two_bytes y ++ ((l ∷ []) ++ table (window_byte w) window_bytes)) in
      record {
        size = length_bytes y l w;
        marked = λ k h. get_or-append mark rest 0 k h;
        version = two_bytes_law (bytes_of y l w) version_at;
      }

  -- the meaning of the bytes is what was written
  meaning : length w ≡ window_places → sheet_in (bytes_of y l w) ≡ record { year = y; level = l; windows = w }
  meaning h = λ i. record { year = year_written i; level = level_written i; windows = windows_written h i }

-- reading what was written gives the same meaning
pub read_written : (ed : Edition) (s : Sheet) → LegalSheet ed s → read_of ed (sheet_bytes s) ≡ record { answer = only 0; sheet = s }
read_written ed s h =
    let m = meaning s.year s.level s.windows h.long in
    sym (read_taken ed (sheet_bytes s) (read_accepted ed (sheet_bytes s) (formed s.year s.level s.windows)
    (rw (ap (λ (x : Sheet). x.year) m) ((has_year ed _).1 h.year))
    (rw (ap (λ (x : Sheet). x.level) m) ((level_of _).1 h.level))
    (rw (ap (λ (x : Sheet). x.windows) m) ((roomy ed _).1 h.room))))
    ∙ ap (λ (x : Sheet). record { answer = only 0; sheet = x }) m

-- so two meanings never share bytes
pub one_meaning : (ed : Edition) (s t : Sheet) → LegalSheet ed s → LegalSheet ed t → sheet_bytes s ≡ sheet_bytes t → s ≡ t
one_meaning ed s t h g e =
    ap (λ (r : ReadSaid). r.sheet) (sym (read_written ed s h) ∙ ap (read_of ed) e ∙ read_written ed t g)

module _ (b : List ℕ) (small : AreBytes b) (f : Formed b) where
  -- the windows' bytes, back from their bits
  quarter_back : (k j : ℕ) → k < window_bytes → j < 8 → get_or (windows_in b) (8 * k + j) false ≡ bit_of (get_or b (windows_at + k) 0) j
  unfolding windows_in
  quarter_back k j h l =
      let q : (8 * k + j) / 8 ≡ k = omega arith in
      let r : (8 * k + j) % 8 ≡ j = omega arith in
      get_d_table (window_at b) window_places (8 * k + j) false (omega arith) ∙ rw (q, r)

  byte_back : (k : ℕ) → k < window_bytes → window_byte (windows_in b) k ≡ get_or b (windows_at + k) 0
  unfolding window_byte
  byte_back k h =
      base_cong 2 (λ j. bit (get_or (windows_in b) (8 * k + j) false)) (λ j. bit (bit_of (get_or b (windows_at + k) 0) j)) 8
      (λ j l. ap bit (quarter_back k j h l))
      ∙ bits_byte (get_or b (windows_at + k) 0) (small (windows_at + k))

  -- the eight bytes before them
  head_back : (i : ℕ) → i < windows_at → get_or (head_of (two_at b year_at) (get_or b level_at 0)) i 0 ≡ get_or b i 0
  head_back zero h = sym (f.marked 0 (omega arith))
  head_back (suc zero) h = sym (f.marked 1 (omega arith))
  head_back (suc (suc zero)) h = sym (f.marked 2 (omega arith))
  head_back (suc (suc (suc zero))) h = omega (arith, two_bytes_law b version_at, f.version, small 4)
  head_back (suc (suc (suc (suc zero)))) h = omega (arith, two_bytes_law b version_at, f.version, small 4)
  head_back (suc (suc (suc (suc (suc zero))))) h = omega (arith, two_bytes_law b year_at, small 6)
  head_back (suc (suc (suc (suc (suc (suc zero)))))) h = omega (arith, two_bytes_law b year_at, small 6)
  head_back (suc (suc (suc (suc (suc (suc (suc zero))))))) h = refl
  head_back (suc (suc (suc (suc (suc (suc (suc (suc i)))))))) h = absurd (omega arith)

  each : (i : ℕ) → i < sheet_size → get_or (sheet_bytes (sheet_in b)) i 0 ≡ get_or b i 0
  each i h = sym (byte_at_law (two_at b year_at) (get_or b level_at 0) (windows_in b) i h) ∙ go (dec_lt i windows_at)
    where
      go : Dec (i < windows_at) → byte_at (head_of (two_at b year_at) (get_or b level_at 0)) (windows_in b) i ≡ get_or b i 0
      go (yes l) = simp (lt-ltb i windows_at l) (head_back i l)
      go (no l) =
          let e : windows_at + (i - windows_at) ≡ i = omega arith in
          simp (le-ltb i windows_at (omega arith)) (rw e at (byte_back (i - windows_at) (omega arith)))

  written_read : sheet_bytes (sheet_in b) ≡ b
  written_read =
      let size = length_bytes (two_at b year_at) (get_or b level_at 0) (windows_in b) in
      ext_get_or 0 (sheet_bytes (sheet_in b)) b (size ∙ sym f.size) (λ i l. each i (omega arith))

module _ (ed : Edition) (b : List ℕ) (e : (read_answer ed b).number ≡ 0) where
  -- accepted bytes have the form, and the sheet beside 0 is their meaning
  accepted : Formed b × (read_sheet ed b ≡ sheet_in b) × LegalSheet ed (sheet_in b)
  unfolding windows_in
  accepted = go ((read_exactly ed b 0).0 e)
    where
      go : ReadRow ed b 0 → Formed b × (read_sheet ed b ≡ sheet_in b) × LegalSheet ed (sheet_in b)
      go (zero f y l w) = (
        f,
        sym (ap (λ (r : ReadSaid). r.sheet) (read_taken ed b (read_accepted ed b f ((has_year ed _).1 y) ((level_of _).1 l) ((roomy ed _).1 w)))),
        record { long = length_table (window_at b) window_places; year = y; level = l; room = w },
      )

  -- what is read is a legal sheet, and writing it gives the same bytes
  pub read_legal : LegalSheet ed (read_sheet ed b)
  read_legal = rw accepted.1 accepted.2

  pub bytes_back : AreBytes b → sheet_bytes (read_sheet ed b) ≡ b
  bytes_back small = rw accepted.1 (written_read b small accepted.0)

-- so two accepted sheets with one meaning have the same bytes, whatever the editions
pub same_bytes :
    (ed fd : Edition) (b c : List ℕ)
    → AreBytes b
    → AreBytes c
    → (read_answer ed b).number ≡ 0
    → (read_answer fd c).number ≡ 0
    → read_sheet ed b ≡ read_sheet fd c
    → b ≡ c
same_bytes ed fd b c small tiny p q e = sym (bytes_back ed b p small) ∙ ap sheet_bytes e ∙ bytes_back fd c q tiny

-- an accepted writing leaves a sheet in the buffer that reads back
pub buffer_read :
    (ed : Edition) (s : Sheet) (buffer : List ℕ)
    → length s.windows ≡ window_places
    → (write_answer ed s (length buffer)).number ≡ 0
    → read_of ed (take sheet_size (written ed s buffer)) ≡ record { answer = only 0; sheet = s }
buffer_read ed s buffer long e = go ((write_exactly ed s (length buffer) 0).0 e)
  where
    go : WriteRow ed s (length buffer) 0 → read_of ed (take sheet_size (written ed s buffer)) ≡ record { answer = only 0; sheet = s }
    go (zero h y l w) =
        let taken = write_accepted ed s (length buffer) h ((has_year ed _).1 y) ((level_of _).1 l) ((roomy ed _).1 w) in
        let bytes = length_bytes s.year s.level s.windows in
        ap (read_of ed) (ap (take sheet_size) (sym (write_taken ed s buffer _ taken refl).1)
        ∙ take_at (sheet_bytes s) (drop sheet_size buffer) sheet_size bytes)
        ∙ read_written ed s (record { long = long; year = y; level = l; room = w })

-- a sheet without a set bit is legal (Rule 5.3)
empty_season : (s : ℕ) → Within 1 seasons s → set_in (replicate window_places false) s ≡ 0
unfolding set_in
empty_season s r =
    count_fails (λ q. get_or (replicate window_places false) (quarter_place s q) false) day_quarters
    (λ q l. get_or-replicate {A = Bool} window_places (quarter_place s q) false false (omega arith))

pub empty_legal : (ed : Edition) (y l : ℕ) → HasYear ed y → Level l → LegalSheet ed (record { year = y; level = l; windows = replicate window_places false })
empty_legal ed y l h g =
    record { long = length-replicate {A = Bool} window_places false; year = h; level = g; room = λ s r. omega (arith, empty_season s r) }
