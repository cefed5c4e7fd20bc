-- A machine that is handed a file as it wants it, in any state type: driven over the header it says the header's
-- answer or goes on, driven over the days it says theirs, and so over the file it says what the bytes are answered;
-- a machine that has ended stays.
-- Assumes nothing.
use mathlib.Core.Path.{◌≡◌, refl, sym, ap, ◌∙◌}
use mathlib.Core.Bool.{Bool, true, false}
use mathlib.Core.Logic.{◌⊎◌, inl, inr}
use mathlib.Core.List.{List}
use Prim.Native.Nat.{ℕ, zero, suc, ◌+◌, ◌-◌, ◌≤◌, ◌<◌}
use native.Mathlib.Decide.{dec_lt, ℕ_discrete}
use native.Mathlib.Omega.{arith}
use borrow.Author.Tests.{ne_eqb}
use lib.Dec.{eqb}
use lib.ListN.{length, take, drop}
use lib.Seq.{drop-drop}
use Rattle.ranges.proofs.Bools.{decided}
use Rattle.ranges.proofs.Tests.{Passed, passed_none, passed_more}
use Rattle.answers.specs.Said.{Said, only, or_else}
use Rattle.readings.specs.declared.Run.{Run}
use Rattle.readings.specs.Runs.{run_days, day_start}
use Rattle.readings.specs.Legal.{bad_in}
use Rattle.readings.specs.Days.{next_answer}
use Rattle.readings.proofs.Runs.{start_none, run_all}
use Rattle.fields.specs.Layout.{Layout, start_of, head_size, stops, head_answer}
use Rattle.fields.specs.Series.{series_in, day_size, day_at, file_size, days_answer}
use Rattle.fields.specs.File.{file_answer, part, driven}
use Rattle.fields.proofs.Header.{field_none, field_more, fields_held, field_passed, head_cut, head_refused, head_fine}
use Rattle.fields.proofs.Days.{day_next, day_in, day_bad, day_fine, days_bad, days_short, days_left, days_done}

module _ {S X : Type 0} (wanted : S → ℕ) (fed : S → List ℕ → S) (said : S → X) (shown : Said → X) where
  -- a machine that has ended, with its answer as it is shown
  pub record Stopped (s : S) (x : Said) : Type 0 where
    pub says : said s ≡ shown x
    pub stays : (b : List ℕ) → fed s b ≡ s

  turn : (n : ℕ) (s : S) (bytes : List ℕ) → driven wanted fed (suc n) s bytes ≡ driven wanted fed n (fed s (take (wanted s) bytes)) (drop (wanted s) bytes)
  unfolding driven
  turn n s bytes = refl

  none : (s : S) (bytes : List ℕ) → driven wanted fed 0 s bytes ≡ s
  unfolding driven
  none s bytes = refl

  pub driven_stays : (n : ℕ) (s : S) → ((b : List ℕ) → fed s b ≡ s) → (bytes : List ℕ) → driven wanted fed n s bytes ≡ s
  driven_stays zero s h bytes = none s bytes
  driven_stays (suc n) s h bytes =
      turn n s bytes
      ∙ ap (λ (t : S). driven wanted fed n t (drop (wanted s) bytes)) (h (take (wanted s) bytes))
      ∙ driven_stays n s h (drop (wanted s) bytes)

  module _ (bytes : List ℕ) where
    -- a turn at a place of the file: the machine is handed the part that it wants, and ends or goes on
    module _ (n : ℕ) (s : S) (at size : ℕ) (w : wanted s ≡ size) where
      handed : driven wanted fed (suc n) s (drop at bytes) ≡ driven wanted fed n (fed s (part bytes at size)) (drop (at + size) bytes)
      handed =
          turn n s (drop at bytes)
          ∙ ap (λ (k : ℕ). driven wanted fed n (fed s (take k (drop at bytes))) (drop k (drop at bytes))) w
          ∙ ap (λ (r : List ℕ). driven wanted fed n (fed s (part bytes at size)) r) (drop-drop size at bytes)

      ends : {x y : Said} → Stopped (fed s (part bytes at size)) x → x ≡ y → said (driven wanted fed (suc n) s (drop at bytes)) ≡ shown y
      ends h e = ap said (handed ∙ driven_stays n _ h.stays _) ∙ h.says ∙ ap shown e

      goes_on :
          {t : S} {next : ℕ} {x : Said}
          → fed s (part bytes at size) ≡ t
          → at + size ≡ next
          → said (driven wanted fed n t (drop next bytes)) ≡ shown x
          → said (driven wanted fed (suc n) s (drop at bytes)) ≡ shown x
      goes_on {t} {next} e f h =
          ap said
          (handed
          ∙ ap (λ (u : S). driven wanted fed n u (drop (at + size) bytes)) e
          ∙ ap (λ (k : ℕ). driven wanted fed n t (drop k bytes)) f)
          ∙ h

    -- the header: what a machine whose state after k fields is `in_head k` does with field k, from 0
    module _ (l : Layout) (in_head : ℕ → S) where
      abbrev field : ℕ → S
      field k = fed (in_head k) (part bytes (start_of l k) (l.width k))

      pub record TakesField (k : ℕ) : Type 0 where
        pub size : wanted (in_head k) ≡ l.width k
        pub cut : length bytes < start_of l (k + 1) → Stopped (field k) (only 12)
        pub refused : start_of l (k + 1) ≤ length bytes → (l.refusal k ≡ 0 → ⊥) → Stopped (field k) (only (l.refusal k))
        pub taken : start_of l (k + 1) ≤ length bytes → l.refusal k ≡ 0 → field k ≡ in_head (k + 1)

      -- driven over the header it says the header's answer, or goes on to what is said after it
      module _
          (fields : (k : ℕ) → k < l.count → Passed (stops l bytes) k → TakesField k)
          (n : ℕ)
          (x : Said)
          (after : Passed (stops l bytes) l.count → said (driven wanted fed n (in_head l.count) (drop (head_size l) bytes)) ≡ shown x)
        where
          abbrev from : ℕ → ℕ → Type 0
          from t k = said (driven wanted fed t (in_head k) (drop (start_of l k) bytes)) ≡ shown (or_else (head_answer l bytes) x)

          stands : {r : ℕ} → (r ≡ 0 → ⊥) → only r ≡ head_answer l bytes → only r ≡ or_else (head_answer l bytes) x
          stands {r} z e = simp (← e, ne_eqb r 0 z)

          pub head_driven : (m k : ℕ) → k + m ≡ l.count → Passed (stops l bytes) k → from (m + n) k
          head_driven zero k e h =
              let all : k ≡ l.count = omega arith in
              let c : Passed (stops l bytes) l.count = rw all at h in
              let turns : 0 + n ≡ n = omega arith in
              rw (all, turns, ← head_fine l bytes c) (after c)
          head_driven (suc m) k e h = go (dec_lt (length bytes) (start_of l (k + 1))) (ℕ_discrete (l.refusal k) 0) (head_driven m (k + 1) (omega arith))
            where
              t : TakesField k
              t = fields k (omega arith) h

              turns : suc m + n ≡ suc (m + n)
              turns = omega arith

              go :
                  Dec (length bytes < start_of l (k + 1))
                  → Dec (l.refusal k ≡ 0)
                  → (Passed (stops l bytes) (k + 1) → from (m + n) (k + 1))
                  → from (suc m + n) k
              go (yes c) d ih =
                  rw turns
                  (ends (m + n) (in_head k) (start_of l k) (l.width k) t.size (t.cut c)
                  (stands (omega arith) (head_cut l bytes k h (omega arith) c)))
              go (no c) (no d) ih =
                  rw turns
                  (ends (m + n) (in_head k) (start_of l k) (l.width k) t.size (t.refused (omega arith) d)
                  (stands d (head_refused l bytes k h (omega arith) (omega arith) d)))
              go (no c) (yes d) ih =
                  rw turns
                  (goes_on (m + n) (in_head k) (start_of l k) (l.width k) t.size (t.taken (omega arith) d) (sym (field_more l k))
                  (ih (field_passed l bytes k h (omega arith) d)))

    -- the days behind h bytes: what a machine whose state after d days is `in_days d` does with day d, from 0, and with
    -- what comes after the last one
    module _ (run : Run) (limit h : ℕ) (in_days : ℕ → S) where
      abbrev bad : ℕ → Bool
      bad d = bad_in run limit (series_in bytes h) d

      abbrev day : ℕ → S
      day d = fed (in_days d) (part bytes (day_at run h d) (day_size run d))

      abbrev end : S
      end = fed (in_days (run_days run)) (part bytes (file_size run h) 1)

      pub record TakesDay (d : ℕ) : Type 0 where
        pub size : wanted (in_days d) ≡ day_size run d
        pub cut : length bytes < day_at run h (d + 1) → Stopped (day d) (only 4)
        pub refused :
            day_at run h (d + 1) ≤ length bytes
            → eqb (next_answer run limit d (day_in run h bytes d)).number 0 ≡ false
            → Stopped (day d) (next_answer run limit d (day_in run h bytes d))
        pub taken : day_at run h (d + 1) ≤ length bytes → next_answer run limit d (day_in run h bytes d) ≡ only 0 → day d ≡ in_days (d + 1)

      pub record TakesEnd (done : Said) : Type 0 where
        pub size : wanted (in_days (run_days run)) ≡ 1
        pub left : file_size run h < length bytes → Stopped end (only 4)
        pub closed : length bytes ≡ file_size run h → Stopped end done

      -- driven over the days it says what they are answered
      module _
          (done : Said)
          (days : (d : ℕ) → d < run_days run → day_at run h d ≤ length bytes → Passed bad d → TakesDay d)
          (last : file_size run h ≤ length bytes → Passed bad (run_days run) → TakesEnd done)
          (n : ℕ)
        where
          abbrev over : ℕ → ℕ → Type 0
          over t d = said (driven wanted fed t (in_days d) (drop (day_at run h d) bytes)) ≡ shown (days_answer run limit h done bytes)

          through : (d : ℕ) → d ≡ run_days run → file_size run h ≤ length bytes → Passed bad d → over (suc n) d
          through d e w c = rw (e, run_all run) (go (ℕ_discrete (length bytes) (file_size run h)))
            where
              all : Passed bad (run_days run)
              all = rw e at c

              t : TakesEnd done
              t = last w all

              go :
                  Dec (length bytes ≡ file_size run h)
                  → said (driven wanted fed (suc n) (in_days (run_days run)) (drop (file_size run h) bytes)) ≡ shown (days_answer run limit h done bytes)
              go (yes z) = ends n (in_days (run_days run)) (file_size run h) 1 t.size (t.closed z) (days_done run h bytes limit done (run_days run) all refl z)
              go (no z) =
                  ends n (in_days (run_days run)) (file_size run h) 1 t.size (t.left (omega arith))
                  (days_left run h bytes limit done (run_days run) all refl (omega arith))

          pub days_driven : (m d : ℕ) → d + m ≡ run_days run → day_at run h d ≤ length bytes → Passed bad d → over (m + suc n) d
          days_driven zero d e w c =
              let all : d ≡ run_days run = omega arith in
              let turns : 0 + suc n ≡ suc n = omega arith in
              rw turns (through d all (omega (arith, ap (day_start run) all, run_all run)) c)
          days_driven (suc m) d e w c = go (dec_lt (length bytes) (day_at run h (d + 1))) (decided (bad d)) (days_driven m (d + 1) (omega arith))
            where
              t : TakesDay d
              t = days d (omega arith) w c

              turns : suc m + suc n ≡ suc (m + suc n)
              turns = omega arith

              go :
                  Dec (length bytes < day_at run h (d + 1))
                  → (bad d ≡ true) ⊎ (bad d ≡ false)
                  → (day_at run h (d + 1) ≤ length bytes → Passed bad (d + 1) → over (m + suc n) (d + 1))
                  → over (suc m + suc n) d
              go (yes o) b ih =
                  rw turns
                  (ends (m + suc n) (in_days d) (day_at run h d) (day_size run d) t.size (t.cut o)
                  (days_short run h bytes limit done d c (omega arith) o))
              go (no o) (inl b) ih =
                  let five = day_bad run h bytes d (omega arith) limit (omega arith) b in
                  rw turns
                  (ends (m + suc n) (in_days d) (day_at run h d) (day_size run d) t.size (t.refused (omega arith) (simp (← five)))
                  (sym five ∙ days_bad run h bytes limit done d c (omega arith) (omega arith) b))
              go (no o) (inr b) ih =
                  rw turns
                  (goes_on (m + suc n) (in_days d) (day_at run h d) (day_size run d) t.size
                  (t.taken (omega arith) (sym (day_fine run h bytes d (omega arith) limit (omega arith) b)))
                  (day_next run h d)
                  (ih (omega arith) (passed_more c b)))

-- what a machine does that takes a file: `in_head k` is its state after k fields, and `in_days d` after d days
pub record FileMachine {S X : Type 0} (wanted : S → ℕ) (fed : S → List ℕ → S) (said : S → X) (shown : Said → X)
    (l : Layout) (run : Run) (limit : ℕ) (done : Said) (bytes : List ℕ) (in_head in_days : ℕ → S) : Type 0 where
  pub fields : (k : ℕ) → k < l.count → Passed (stops l bytes) k → TakesField wanted fed said shown bytes l in_head k
  pub opened : Passed (stops l bytes) l.count → in_head l.count ≡ in_days 0
  pub days :
      Passed (stops l bytes) l.count
      → (d : ℕ)
      → d < run_days run
      → day_at run (head_size l) d ≤ length bytes
      → Passed (bad_in run limit (series_in bytes (head_size l))) d
      → TakesDay wanted fed said shown bytes run limit (head_size l) in_days d
  pub last :
      Passed (stops l bytes) l.count
      → file_size run (head_size l) ≤ length bytes
      → Passed (bad_in run limit (series_in bytes (head_size l))) (run_days run)
      → TakesEnd wanted fed said shown bytes run limit (head_size l) in_days done

module _ {S X : Type 0} {wanted : S → ℕ} {fed : S → List ℕ → S} {said : S → X} {shown : Said → X}
    {l : Layout} {run : Run} {limit : ℕ} {done : Said} {bytes : List ℕ} {in_head in_days : ℕ → S}
    (m : FileMachine wanted fed said shown l run limit done bytes in_head in_days) where
  by_turns : (n : ℕ) → said (driven wanted fed (l.count + (run_days run + suc n)) (in_head 0) bytes) ≡ shown (file_answer l run limit done bytes)
  by_turns n =
      ap (λ (k : ℕ). said (driven wanted fed (l.count + (run_days run + suc n)) (in_head 0) (drop k bytes))) (sym (field_none l))
      ∙ head_driven wanted fed said shown bytes l in_head m.fields (run_days run + suc n) _ after l.count 0 (omega arith) passed_none
    where
      after :
          Passed (stops l bytes) l.count
          → said (driven wanted fed (run_days run + suc n) (in_head l.count) (drop (head_size l) bytes))
          ≡ shown (days_answer run limit (head_size l) done bytes)
      after c =
          let first : head_size l ≡ day_at run (head_size l) 0 = omega (arith, start_none run) in
          ap (λ (s : S). said (driven wanted fed (run_days run + suc n) s (drop (head_size l) bytes))) (m.opened c)
          ∙ ap (λ (k : ℕ). said (driven wanted fed (run_days run + suc n) (in_days 0) (drop k bytes))) first
          ∙ days_driven wanted fed said shown bytes run limit (head_size l) in_days done (m.days c) (m.last c) n (run_days run) 0 (omega arith)
          (omega (arith, start_none run, fields_held l bytes l.count c))
          passed_none

  -- with enough turns, what the machine says is what the file's bytes are answered
  pub file_driven : (turns : ℕ) → l.count + run_days run < turns → said (driven wanted fed turns (in_head 0) bytes) ≡ shown (file_answer l run limit done bytes)
  file_driven turns h =
      let e : l.count + (run_days run + suc (turns - (l.count + run_days run + 1))) ≡ turns = omega arith in
      ap (λ (t : ℕ). said (driven wanted fed t (in_head 0) bytes)) (sym e) ∙ by_turns (turns - (l.count + run_days run + 1))
