-- What is read from a sheet's bytes, or written into them, stands where Rules 5.1 and 5.2 put it; and it reads back.
-- Assumes nothing.
use mathlib.Core.Path.{◌≡◌, refl, sym, ap, ◌∙◌}
use mathlib.Core.Bool.{true}
use mathlib.Core.Logic.{◌↔◌}
use mathlib.Core.List.{List, ◌++◌}
use Prim.Native.Nat.{ℕ, ◌+◌, ◌-◌, ◌*◌, ◌/◌, ◌%◌, ◌^◌, ◌<◌}
use native.Mathlib.Omega.{arith}
use borrow.Author.Tests.{eq-eqb, eqb-true}
use lib.ListN.{length, get_or, take, drop}
use lib.Seq.{drop_at}
use Rattle.ranges.specs.Limits.{Within}
use Rattle.ranges.specs.Ranges.{in_base, joined}
use Rattle.ranges.proofs.Tables.{get_d_table}
use Rattle.answers.specs.declared.Edition.{Edition}
use Rattle.answers.specs.Said.{Said, after, only}
use Rattle.editions.specs.declared.Editions.{Editions}
use Rattle.editions.specs.Editions.{edition_of}
use Rattle.encoding.specs.Bytes.{two_at}
use Rattle.sheet.specs.declared.Sheet.{Sheet}
use Rattle.sheet.specs.Windows.{window_places, quarter_place, is_set}
use Rattle.sheet.specs.Bytes.{year_at, sheet_size, sheet_bytes, window_at, windows_in, sheet_in}
use Rattle.sheet.specs.Answers.{ReadSaid, read_answer, read_sheet, read_of, write_answer, written}
use Rattle.sheet.proofs.Answered.{read_taken}
use Rattle.sheet.specs.Rows.{ReadRow}
use Rattle.sheet.specs.Rows.ReadRow.{malformed, one, two, full, zero}
use Rattle.sheet.proofs.Windows.{set_at}
use Rattle.sheet.proofs.Bytes.{length_bytes}
use Rattle.sheet.proofs.Exactly.{read_exactly}
use Rattle.sheet.proofs.Back.{buffer_read, same_bytes}
use Rattle.sheet_read.specs.Editions.{sheet_edition}
use Rattle.demands.specs.Module.{ours}
use Rattle.demands.specs.Sheets.{LaidOut, Sheets}

-- what 0 hands over is the new value
pub handed : {A : Type 0} (a : Said) (new old : A) → a.number ≡ 0 → after a new old ≡ new
handed a new old z = rw (eq-eqb _ _ z)

-- one bit
bit_there :
    (b : List ℕ) (n q : ℕ)
    → Within 1 4 n
    → q < 96
    → (get_or b (8 + 12 * (n - 1) + q / 8) 0 / 2 ^ (7 - q % 8) % 2 ≡ 1) ↔ (is_set (windows_in b) n q ≡ true)
unfolding windows_in
bit_there b n q w l =
    let byte : 8 + quarter_place n q / 8 ≡ 8 + 12 * (n - 1) + q / 8 = omega arith in
    let bit : 8 - 1 - quarter_place n q % 8 ≡ 7 - q % 8 = omega arith in
    let shown : window_at b (quarter_place n q) ≡ is_set (windows_in b) n q =
    sym (get_d_table (window_at b) window_places (quarter_place n q) _ (omega arith)) ∙ set_at (windows_in b) n q w l in
    rw (← shown, ← byte, ← bit) ((λ e. eq-eqb _ _ e), eqb-true _ _)

laid_out : {ed : Edition} (b : List ℕ) {n : ℕ} → ReadRow ed b n → n ≡ 0 → LaidOut b (sheet_in b)
unfolding two_at in_base joined
laid_out b (malformed f) e = absurd (omega arith)
laid_out b (one f y) e = absurd (omega arith)
laid_out b (two f y l) e = absurd (omega arith)
laid_out b (full f y l w) e = absurd (omega arith)
laid_out b (zero f y l w) e =
    record {
      size = f.size;
      h = f.marked 0 (omega arith);
      l = f.marked 1 (omega arith);
      z = f.marked 2 (omega arith);
      version = omega (arith, f.version);
      year = omega arith;
      level = refl;
      windows = bit_there b;
    }

read_so : (ed : Edition) (b : List ℕ) → (read_answer ed b).number ≡ 0 → LaidOut b (read_sheet ed b)
unfolding read_sheet
read_so ed b z = rw (handed (read_answer ed b) (sheet_in b) _ z) (laid_out b ((read_exactly ed b 0).0 z) refl)

-- bytes that are read as a sheet by the edition of its year are read so by the list, since that year stands in them
pub by_list :
    (es : Editions) (s : Sheet) (b : List ℕ)
    → read_of (edition_of es s.year) b ≡ record { answer = only 0; sheet = s }
    → read_of (sheet_edition es b) b ≡ record { answer = only 0; sheet = s }
by_list es s b e =
    let taken = read_taken (edition_of es s.year) b (sym (ap (λ (x : ReadSaid). x.answer) e)) ∙ e in
    let year : two_at b year_at ≡ s.year = ap (λ (x : ReadSaid). x.sheet.year) taken in
    ap (λ (y : ℕ). read_of (edition_of es y) b) year ∙ e

reads_back :
    (es : Editions) (s : Sheet) (buffer : List ℕ)
    → length s.windows ≡ window_places
    → (ours.write es s (length buffer)).number ≡ 0
    → (ours.read es (take 56 (ours.written es s buffer)) ≡ only 0) × (ours.sheet_read es (take 56 (ours.written es s buffer)) ≡ s)
reads_back es s buffer l z =
    let r = by_list es s _ (buffer_read (edition_of es s.year) s buffer l z) in
    (ap (λ (x : ReadSaid). x.answer) r, ap (λ (x : ReadSaid). x.sheet) r)

pub rest_stays :
    (ed : Edition) (s : Sheet) (buffer : List ℕ)
    → (write_answer ed s (length buffer)).number ≡ 0
    → drop 56 (written ed s buffer) ≡ drop 56 buffer
unfolding written
rest_stays ed s buffer z =
    ap (drop 56) (handed (write_answer ed s (length buffer)) (sheet_bytes s ++ drop sheet_size buffer) _ z)
    ∙ drop_at (sheet_bytes s) (drop sheet_size buffer) sheet_size (length_bytes s.year s.level s.windows)

written_so :
    (es : Editions) (s : Sheet) (buffer : List ℕ)
    → length s.windows ≡ window_places
    → (ours.write es s (length buffer)).number ≡ 0
    → LaidOut (take 56 (ours.written es s buffer)) s
written_so es s buffer l z =
    let r = reads_back es s buffer l z in
    rw r.1 at (read_so _ (take 56 (ours.written es s buffer)) (ap (λ (a : Said). a.number) r.0))

pub sheets : Sheets ours
sheets =
    record {
      written_so = written_so;
      rest_stays = λ es s. rest_stays (edition_of es s.year) s;
      read_so = λ es b. read_so (sheet_edition es b) b;
      reads_back = reads_back;
      same_bytes = λ es fs b c. same_bytes (sheet_edition es b) (sheet_edition fs c) b c;
    }
