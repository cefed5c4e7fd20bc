-- What a file is answered, by its bytes: the header first, then the days. And a machine to which the file is handed,
-- each time as many bytes as it wants; when fewer come, the file has ended. Rules 10.4 and 10.5.
use Rattle.std.specs.Prelude.{List, ℕ, zero, suc, take, drop}
use Rattle.answers.specs.Said.{Said, or_else}
use Rattle.readings.specs.declared.Run.{Run}
use Rattle.fields.specs.Layout.{Layout, head_size, head_answer}
use Rattle.fields.specs.Series.{days_answer}

-- the answer to a file whose days have this run and limit; `done` is what is answered where the file has no fault
abbrev pub file_answer : Layout → Run → ℕ → Said → List ℕ → Said
file_answer l run limit done bytes = or_else (head_answer l bytes) (days_answer run limit (head_size l) done bytes)

-- `size` bytes from a place on, from 0, or those that are left
abbrev pub part : List ℕ → ℕ → ℕ → List ℕ
part bytes at size = take size (drop at bytes)

-- the state after a number of turns: in each, the machine is handed as many bytes as it wants
unfoldable pub driven : {S : Type 0} → (S → ℕ) → (S → List ℕ → S) → ℕ → S → List ℕ → S
driven wanted fed zero s bytes = s
driven wanted fed (suc n) s bytes = driven wanted fed n (fed s (take (wanted s) bytes)) (drop (wanted s) bytes)
