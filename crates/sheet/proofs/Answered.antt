-- The cases of reading and writing a sheet, each with the code's answer on the left.
-- Assumes nothing.
use mathlib.Core.Path.{◌≡◌, ap, ◌∙◌}
use mathlib.Core.Bool.{true, false}
use mathlib.Core.Logic.{◌↔◌, ◌⊎◌, inl, inr}
use mathlib.Core.List.{List, ◌++◌}
use Prim.Native.Nat.{ℕ, ◌+◌, ◌≤◌, ◌<◌}
use native.Mathlib.Decide.{ℕ_discrete}
use native.Mathlib.Omega.{arith}
use borrow.Author.Tests.{lt-ltb, le-ltb, eq-eqb, ne_eqb}
use lib.Dec.{eqb}
use lib.ListN.{length, drop, get_or}
use Rattle.ranges.proofs.Bools.{decided, clash}
use Rattle.answers.specs.declared.Edition.{Edition}
use Rattle.answers.specs.Ruling.{lacks_year, level_out}
use Rattle.answers.specs.Said.{only, after}
use Rattle.answers.proofs.Laws.{after_again, refusal_keeps}
use Rattle.sheet.specs.declared.Sheet.{Sheet}
use Rattle.sheet.specs.Windows.{too_full}
use Rattle.encoding.specs.Bytes.{format_version, two_at}
use Rattle.encoding.proofs.Bytes.{alike}
use Rattle.sheet.specs.Bytes.{mark, version_at, year_at, level_at, sheet_size, windows_in, sheet_in, sheet_bytes, unmarked}
use Rattle.sheet.specs.Rows.{Marked, Formed}
use Rattle.sheet.specs.Answers.{read_answer, read_sheet, read_of, blank, write_answer, written}

module _ (b : List ℕ) where
  -- the mark by its test
  pub marked : (unmarked b ≡ false) ↔ Marked b
  marked = (
    λ e k l. let z : k ≡ 0 + k = omega arith in ap (λ (i : ℕ). get_or b i 0) z ∙ (alike mark b 0).0 e k l,
    λ h. (alike mark b 0).1 (λ k l. let z : 0 + k ≡ k = omega arith in ap (λ (i : ℕ). get_or b i 0) z ∙ h k l),
  )

  -- the form is decided
  pub form : Dec (Formed b)
  form = go (ℕ_discrete (length b) sheet_size) (decided (unmarked b)) (ℕ_discrete (two_at b version_at) format_version)
    where
      go : Dec (length b ≡ sheet_size) → (unmarked b ≡ true) ⊎ (unmarked b ≡ false) → Dec (two_at b version_at ≡ format_version) → Dec (Formed b)
      go (no s) m v = no (λ f. s f.size)
      go (yes s) (inl m) v = no (λ f. clash m (marked.1 f.marked))
      go (yes s) (inr m) (no v) = no (λ f. v f.version)
      go (yes s) (inr m) (yes v) = yes (record { size = s; marked = marked.0 m; version = v })

module _ (ed : Edition) (b : List ℕ) where
  -- the sheet beside an answer: the fixed one beside a refusal, what the bytes say beside 0
  pub read_refused : {n : ℕ} → only n ≡ read_answer ed b → eqb n 0 ≡ false → record { answer = only n; sheet = blank } ≡ read_of ed b
  unfolding read_sheet
  read_refused e z = rw (← e, z)

  pub read_taken : only 0 ≡ read_answer ed b → record { answer = only 0; sheet = sheet_in b } ≡ read_of ed b
  unfolding read_sheet
  read_taken e = rw (← e)

  -- the answers, in their order
  pub read_form : (Formed b → ⊥) → only 12 ≡ read_answer ed b
  unfolding read_answer
  read_form h = go (ℕ_discrete (length b) sheet_size) (decided (unmarked b)) (ℕ_discrete (two_at b version_at) format_version)
    where
      go : Dec (length b ≡ sheet_size) → (unmarked b ≡ true) ⊎ (unmarked b ≡ false) → Dec (two_at b version_at ≡ format_version) → only 12 ≡ read_answer ed b
      go (no s) m v = simp (ne_eqb (length b) sheet_size s)
      go (yes s) (inl m) v = simp (eq-eqb (length b) sheet_size s, m)
      go (yes s) (inr m) (no v) = simp (eq-eqb (length b) sheet_size s, m, ne_eqb (two_at b version_at) format_version v)
      go (yes s) (inr m) (yes v) = absurd (h (record { size = s; marked = (marked b).0 m; version = v }))

  module _ (f : Formed b) where
    size : eqb (length b) sheet_size ≡ true
    size = eq-eqb (length b) sheet_size f.size

    version : eqb (two_at b version_at) format_version ≡ true
    version = eq-eqb (two_at b version_at) format_version f.version

    pub read_year : lacks_year ed (two_at b year_at) ≡ true → only 1 ≡ read_answer ed b
    unfolding read_answer
    read_year y = simp (size, (marked b).1 f.marked, version, y)

    module _ (y : lacks_year ed (two_at b year_at) ≡ false) where
      pub read_level : level_out (get_or b level_at 0) ≡ true → only 2 ≡ read_answer ed b
      unfolding read_answer
      read_level l = simp (size, (marked b).1 f.marked, version, y, l)

      module _ (l : level_out (get_or b level_at 0) ≡ false) where
        pub read_full : too_full ed (windows_in b) ≡ true → only 12 ≡ read_answer ed b
        unfolding read_answer
        read_full w = simp (size, (marked b).1 f.marked, version, y, l, w)

        pub read_accepted : too_full ed (windows_in b) ≡ false → only 0 ≡ read_answer ed b
        unfolding read_answer
        read_accepted w = simp (size, (marked b).1 f.marked, version, y, l, w)

module _ (ed : Edition) (s : Sheet) where
  -- an answer, and what the lent buffer then holds
  pub write_refused :
      (out : List ℕ) {n : ℕ}
      → only n ≡ write_answer ed s (length out)
      → eqb n 0 ≡ false
      → (only n ≡ write_answer ed s (length out)) × (out ≡ written ed s out)
  unfolding written
  write_refused out e z = refusal_keeps _ _ out e z

  pub write_taken :
      (out next : List ℕ)
      → only 0 ≡ write_answer ed s (length out)
      → next ≡ sheet_bytes s ++ drop sheet_size out
      → (only 0 ≡ write_answer ed s (length out)) × (next ≡ written ed s out)
  unfolding written
  write_taken out next e f = (e, rw (← e) f)

  pub written_again : (out : List ℕ) → after (write_answer ed s (length out)) (written ed s out) out ≡ written ed s out
  unfolding written
  written_again out = after_again (write_answer ed s (length out)) (sheet_bytes s ++ drop sheet_size out) out

  module _ (room : ℕ) where
    pub write_short : room < sheet_size → only 14 ≡ write_answer ed s room
    unfolding write_answer
    write_short h = simp (lt-ltb room sheet_size h)

    module _ (h : sheet_size ≤ room) where
      pub write_year : lacks_year ed s.year ≡ true → only 1 ≡ write_answer ed s room
      unfolding write_answer
      write_year y = simp (le-ltb room sheet_size h, y)

      module _ (y : lacks_year ed s.year ≡ false) where
        pub write_level : level_out s.level ≡ true → only 2 ≡ write_answer ed s room
        unfolding write_answer
        write_level l = simp (le-ltb room sheet_size h, y, l)

        module _ (l : level_out s.level ≡ false) where
          pub write_full : too_full ed s.windows ≡ true → only 12 ≡ write_answer ed s room
          unfolding write_answer
          write_full f = simp (le-ltb room sheet_size h, y, l, f)

          pub write_accepted : too_full ed s.windows ≡ false → only 0 ≡ write_answer ed s room
          unfolding write_answer
          write_accepted f = simp (le-ltb room sheet_size h, y, l, f)
