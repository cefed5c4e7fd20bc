-- Each number is answered exactly when its row (specs/Rows) holds and none before it in the call's order does; and
-- nothing else meets the promises of `read` and `write`.
-- Assumes nothing.
use mathlib.Core.Path.{◌≡◌, refl, sym, ap, ◌∙◌}
use mathlib.Core.Bool.{false, cond}
use Rattle.std.specs.Prelude.{Result, Ok, Err, ⊤, IsOk}
use mathlib.Core.Logic.{◌↔◌, ⊎_elim}
use mathlib.Core.List.{List}
use Prim.Native.Nat.{ℕ, ◌≤◌, ◌<◌}
use native.Mathlib.Decide.{dec_lt}
use native.Mathlib.Omega.{arith}
use lib.Dec.{eqb}
use lib.ListN.{length, get_or}
use Rattle.ranges.proofs.Bools.{decided, refutes}
use Rattle.answers.specs.declared.Edition.{Edition}
use Rattle.answers.specs.Ruling.{lacks_year, level_out}
use Rattle.answers.specs.Said.{Said, only}
use Rattle.answers.proofs.Laws.{one_answer, has_year, level_of}
use Rattle.sheet.specs.declared.Sheet.{Sheet}
use Rattle.sheet.specs.declared.ReadRefusal.{ReadRefusal}
use Rattle.sheet.specs.declared.ReadRefusal.TheVariants.{YearOut, LevelOut, Malformed}
use Rattle.sheet.specs.declared.WriteRefusal.{WriteRefusal}
use Rattle.sheet.specs.declared.WriteRefusal.TheVariants.{Short, YearOut, LevelOut, Malformed}
use Rattle.sheet.specs.Windows.{too_full}
use Rattle.encoding.specs.Bytes.{two_at}
use Rattle.sheet.specs.Bytes.{year_at, level_at, sheet_size, windows_in}
use Rattle.sheet.specs.Rows.ReadRow.{malformed, one, two, full, zero}
use Rattle.sheet.specs.Rows.WriteRow.{fourteen, one, two, twelve, zero}
use Rattle.sheet.specs.Rows.{Formed, ReadRow, WriteRow}
use Rattle.sheet.specs.Answers.{said_of_read, said_of_written, ReadSaid, shown_of, read_answer, read_of, write_answer, written}
use Rattle.sheet.proofs.Windows.{roomy}
use Rattle.sheet.proofs.Answered.{form, read_form, read_year, read_level, read_full, read_accepted, write_short, write_year, write_level, write_full, write_accepted}

module _ (ed : Edition) (b : List ℕ) where
  read_holds : ReadRow ed b (read_answer ed b).number
  read_holds = go (form b)
    where
      go : Dec (Formed b) → ReadRow ed b (read_answer ed b).number
      go (no n) = rw (← read_form ed b n) (malformed n)
      go (yes f) =
          ⊎_elim (λ p. rw (← read_year ed b f p) (one f ((refutes _ (has_year ed _)).0 p))) (λ y.
          ⊎_elim (λ p. rw (← read_level ed b f y p) (two f ((has_year ed _).0 y) ((refutes _ (level_of _)).0 p))) (λ l.
          ⊎_elim (λ p. rw (← read_full ed b f y l p) (full f ((has_year ed _).0 y) ((level_of _).0 l) ((refutes _ (roomy ed _)).0 p)))
          (λ w. rw (← read_accepted ed b f y l w) (zero f ((has_year ed _).0 y) ((level_of _).0 l) ((roomy ed _).0 w)))
          (decided (too_full ed (windows_in b)))) (decided (level_out (get_or b level_at 0)))) (decided (lacks_year ed (two_at b year_at)))

  read_given : {n : ℕ} → ReadRow ed b n → (read_answer ed b).number ≡ n
  read_given (malformed n) = rw (← read_form ed b n)
  read_given (one f y) = rw (← read_year ed b f ((refutes _ (has_year ed _)).1 y))
  read_given (two f y l) = rw (← read_level ed b f ((has_year ed _).1 y) ((refutes _ (level_of _)).1 l))
  read_given (full f y l w) = rw (← read_full ed b f ((has_year ed _).1 y) ((level_of _).1 l) ((refutes _ (roomy ed _)).1 w))
  read_given (zero f y l w) = rw (← read_accepted ed b f ((has_year ed _).1 y) ((level_of _).1 l) ((roomy ed _).1 w))

  pub read_exactly : (n : ℕ) → ((read_answer ed b).number ≡ n) ↔ ReadRow ed b n
  read_exactly n = (λ e. rw e at read_holds, read_given)

  -- 0 has no figures, and 14 is never given
  pub read_zero : (read_answer ed b).number ≡ 0 → only 0 ≡ read_answer ed b
  read_zero e = go ((read_exactly 0).0 e)
    where
      go : ReadRow ed b 0 → only 0 ≡ read_answer ed b
      go (zero f y l w) = read_accepted ed b f ((has_year ed _).1 y) ((level_of _).1 l) ((roomy ed _).1 w)

  pub read_never : (read_answer ed b).number ≡ 14 → ⊥
  read_never e = go ((read_exactly 14).0 e) refl
    where
      go : {n : ℕ} → ReadRow ed b n → n ≡ 14 → ⊥
      go (malformed f) h = omega arith
      go (one f y) h = omega arith
      go (two f y l) h = omega arith
      go (full f y l w) h = omega arith
      go (zero f y l w) h = omega arith

module _ (ed : Edition) (s : Sheet) (room : ℕ) where
  write_holds : WriteRow ed s room (write_answer ed s room).number
  write_holds = go (dec_lt room sheet_size)
    where
      go : Dec (room < sheet_size) → WriteRow ed s room (write_answer ed s room).number
      go (yes h) = rw (← write_short ed s room h) (fourteen h)
      go (no n) =
          let h : sheet_size ≤ room = omega arith in
          ⊎_elim (λ p. rw (← write_year ed s room h p) (one h ((refutes _ (has_year ed _)).0 p))) (λ y.
          ⊎_elim (λ p. rw (← write_level ed s room h y p) (two h ((has_year ed _).0 y) ((refutes _ (level_of _)).0 p))) (λ l.
          ⊎_elim (λ p. rw (← write_full ed s room h y l p) (twelve h ((has_year ed _).0 y) ((level_of _).0 l) ((refutes _ (roomy ed _)).0 p)))
          (λ w. rw (← write_accepted ed s room h y l w) (zero h ((has_year ed _).0 y) ((level_of _).0 l) ((roomy ed _).0 w)))
          (decided (too_full ed s.windows))) (decided (level_out s.level))) (decided (lacks_year ed s.year))

  write_given : {n : ℕ} → WriteRow ed s room n → (write_answer ed s room).number ≡ n
  write_given (fourteen h) = rw (← write_short ed s room h)
  write_given (one h y) = rw (← write_year ed s room h ((refutes _ (has_year ed _)).1 y))
  write_given (two h y l) = rw (← write_level ed s room h ((has_year ed _).1 y) ((refutes _ (level_of _)).1 l))
  write_given (twelve h y l w) = rw (← write_full ed s room h ((has_year ed _).1 y) ((level_of _).1 l) ((refutes _ (roomy ed _)).1 w))
  write_given (zero h y l w) = rw (← write_accepted ed s room h ((has_year ed _).1 y) ((level_of _).1 l) ((roomy ed _).1 w))

  pub write_exactly : (n : ℕ) → ((write_answer ed s room).number ≡ n) ↔ WriteRow ed s room n
  write_exactly n = (λ e. rw e at write_holds, write_given)

-- each refusal has a number other than 0
pub read_refuses : (r : ReadRefusal) → eqb (said_of_read r).number 0 ≡ false
read_refuses YearOut = refl
read_refuses LevelOut = refl
read_refuses Malformed = refl

-- so where 0 is shown, a sheet is handed back
pub read_is_ok : (r : Result Sheet ReadRefusal) → (shown_of r).answer.number ≡ 0 → IsOk r
read_is_ok (Ok sheet) z = refl
read_is_ok (Err YearOut) z = absurd (omega arith)
read_is_ok (Err LevelOut) z = absurd (omega arith)
read_is_ok (Err Malformed) z = absurd (omega arith)

-- what code hands back, from what it says: so two that say the same are equal, without a case for each pair
abbrev read_back : ReadSaid → Result Sheet ReadRefusal
read_back r =
    cond (eqb r.answer.number 0) (Ok r.sheet)
    (cond (eqb r.answer.number 1) (Err YearOut)
    (cond (eqb r.answer.number 2) (Err LevelOut) (Err Malformed)))

back : (r : Result Sheet ReadRefusal) → read_back (shown_of r) ≡ r
back (Ok sheet) = refl
back (Err YearOut) = refl
back (Err LevelOut) = refl
back (Err Malformed) = refl

abbrev write_back : Said → Result ⊤ WriteRefusal
write_back a =
    cond (eqb a.number 0) (Ok tt)
    (cond (eqb a.number 14) (Err Short)
    (cond (eqb a.number 1) (Err YearOut)
    (cond (eqb a.number 2) (Err LevelOut) (Err Malformed))))

done_back : (r : Result ⊤ WriteRefusal) → write_back (said_of_written r) ≡ r
done_back (Ok done) = refl
done_back (Err Short) = refl
done_back (Err YearOut) = refl
done_back (Err LevelOut) = refl
done_back (Err Malformed) = refl

-- nothing else meets the promise of `read`, nor that of `write`
pub read_only : (ed : Edition) (b : List ℕ) {r s : Result Sheet ReadRefusal} → shown_of r ≡ read_of ed b → shown_of s ≡ read_of ed b → r ≡ s
read_only ed b {r} {s} p q = sym (back r) ∙ ap read_back (one_answer p q) ∙ back s

pub write_only :
    (ed : Edition) (s : Sheet) (buffer : List ℕ) {r q : Result ⊤ WriteRefusal} {after later : List ℕ}
    → (said_of_written r ≡ write_answer ed s (length buffer)) × (after ≡ written ed s buffer)
    → (said_of_written q ≡ write_answer ed s (length buffer)) × (later ≡ written ed s buffer)
    → (r ≡ q) × (after ≡ later)
write_only ed s buffer {r} {q} p p' = (sym (done_back r) ∙ ap write_back (one_answer p.0 p'.0) ∙ done_back q, one_answer p.1 p'.1)
