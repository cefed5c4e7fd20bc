-- What reading and writing a sheet answer, and what they leave behind. Reading: 12 for length, mark or version, then 1,
-- then 2, then 12 for too many set bits. Writing: 14 for a buffer of fewer than 56 bytes, then 1, 2 and 12; a sheet
-- fills the first 56 bytes of the lent buffer, and the others stay. Years and the limit of set bits are those of an
-- edition ed: the one of the sheet's year. Rules 8.2 and 8.3.
use Rattle.std.specs.Prelude.{false, cond, not, List, ◌++◌, ℕ, ltb, eqb, length, drop, get_or, replicate, Result, Ok, Err, ⊤}
use Rattle.answers.specs.declared.Edition.{Edition}
use Rattle.answers.specs.Ruling.{lacks_year, level_out}
use Rattle.answers.specs.Said.{Said, only, after}
use Rattle.sheet.specs.declared.Sheet.{Sheet}
use Rattle.sheet.specs.declared.ReadRefusal.{ReadRefusal}
use Rattle.sheet.specs.declared.ReadRefusal.TheVariants.{YearOut, LevelOut, Malformed}
use Rattle.sheet.specs.declared.WriteRefusal.{WriteRefusal}
use Rattle.sheet.specs.declared.WriteRefusal.TheVariants.{Short, YearOut, LevelOut, Malformed}
use Rattle.sheet.specs.Windows.{window_places, too_full}
use Rattle.encoding.specs.Bytes.{two_at, version_out}
use Rattle.sheet.specs.Bytes.{version_at, year_at, level_at, sheet_size, windows_in, sheet_in, sheet_bytes, unmarked}

-- the number of each refusal of the code, and of what writing hands back
abbrev pub said_of_read : ReadRefusal → Said
said_of_read YearOut = only 1
said_of_read LevelOut = only 2
said_of_read Malformed = only 12

abbrev pub said_of_write : WriteRefusal → Said
said_of_write Short = only 14
said_of_write YearOut = only 1
said_of_write LevelOut = only 2
said_of_write Malformed = only 12

abbrev pub said_of_written : Result ⊤ WriteRefusal → Said
said_of_written (Ok done) = only 0
said_of_written (Err refusal) = said_of_write refusal

-- reading: what the bytes b are answered
unfoldable pub read_answer : Edition → List ℕ → Said
read_answer ed b =
    cond (not (eqb (length b) sheet_size)) (only 12)
    (cond (unmarked b) (only 12)
    (cond (version_out b version_at) (only 12)
    (cond (lacks_year ed (two_at b year_at)) (only 1)
    (cond (level_out (get_or b level_at 0)) (only 2)
    (cond (too_full ed (windows_in b)) (only 12)
    (only 0))))))

-- one fixed sheet, which stands beside every refusal
abbrev pub blank : Sheet
blank = record { year = 0; level = 0; windows = replicate window_places false }

-- the sheet beside the answer
unfoldable pub read_sheet : Edition → List ℕ → Sheet
read_sheet ed b = after (read_answer ed b) (sheet_in b) blank

-- the answer and the sheet together: what reading code hands back shows, and what it must
pub record ReadSaid : Type 0 where
  pub answer : Said
  pub sheet : Sheet

abbrev pub shown_of : Result Sheet ReadRefusal → ReadSaid
shown_of (Ok sheet) = record { answer = only 0; sheet = sheet }
shown_of (Err refusal) = record { answer = said_of_read refusal; sheet = blank }

abbrev pub read_of : Edition → List ℕ → ReadSaid
read_of ed b = record { answer = read_answer ed b; sheet = read_sheet ed b }

-- writing: what the sheet s is answered, where the lent buffer has `room` bytes, and what the buffer then holds
unfoldable pub write_answer : Edition → Sheet → ℕ → Said
write_answer ed s room =
    cond (ltb room sheet_size) (only 14)
    (cond (lacks_year ed s.year) (only 1)
    (cond (level_out s.level) (only 2)
    (cond (too_full ed s.windows) (only 12)
    (only 0))))

unfoldable pub written : Edition → Sheet → List ℕ → List ℕ
written ed s buffer = after (write_answer ed s (length buffer)) (sheet_bytes s ++ drop sheet_size buffer) buffer
