-- Machines of days, any of them: days that are offered one by one, refused ones among them, lead to the state that
-- holds the taken readings; and where the whole series has an illegal reading, the days before it are taken and its day
-- is answered the same place.
-- Assumes nothing.
use mathlib.Core.Path.{◌≡◌, refl, sym, ap, ◌∙◌}
use mathlib.Core.Bool.{false}
use mathlib.Core.List.{List, [], ◌∷◌, ◌++◌, append_assoc, append-nil}
use Prim.Native.Nat.{ℕ, zero, suc, ◌+◌, ◌≤◌, ◌<◌}
use native.Mathlib.Nat.{add-zero, zero-add}
use native.Mathlib.Decide.{dec_lt, ℕ_discrete}
use native.Mathlib.Omega.{arith}
use borrow.Author.Tests.{lt-ltb}
use lib.Dec.{eqb}
use lib.ListN.{length, get_or, take, length-append}
use lib.Seq.{take_all}
use Rattle.ranges.proofs.Largest.{largest_le, largest_cong}
use Rattle.ranges.proofs.First.{first_cong}
use Rattle.answers.specs.Said.{Said, only, bad_place, after}
use Rattle.readings.specs.declared.Run.{Run}
use Rattle.readings.specs.Runs.{run_days, day_len, day_start, run_readings, reading}
use Rattle.readings.specs.Legal.{illegal, highest_of, first_above, day_peak, peak_of, bad_at, bad_day, first_illegal}
use Rattle.readings.specs.Illegal.{LegalSeries}
use Rattle.readings.specs.Part.{run_part}
use Rattle.readings.specs.Rows.{NextRow}
use Rattle.readings.specs.Rows.NextRow.{thirteen, four, five, zero}
use Rattle.readings.specs.Days.{series_answer, next_answer, offered, taken_days, one_after_other, taken_readings, days_of, BadThere, AsWhole}
use Rattle.readings.proofs.Given.{days_none, days_more, taken_first, part_none_yet, part_more}
use Rattle.readings.proofs.Runs.{run_all, run_held}
use Rattle.readings.proofs.Legal.{peak_illegal, illegal_at}
use Rattle.readings.proofs.Illegal.{before_legal, there_bad}
use Rattle.readings.proofs.Part.{Held, length_part, part_at}
use Rattle.readings.proofs.Days.{series_length, series_bad, series_legal, legal_series, next_out, next_length, next_bad, next_taken, next_exactly, Read, read_none, read_more}

-- what a machine's day does: `holding xs n` is its state once the n days of xs are taken
pub record Machine {S : Type 0} (run : Run) (limit : ℕ) (answer : S → List ℕ → Said) (step : S → List ℕ → S) (holding : List ℕ → ℕ → S) : Type 0 where
  pub says : (xs : List ℕ) (n : ℕ) → Read run limit xs n → (day : List ℕ) → answer (holding xs n) day ≡ next_answer run limit n day
  pub keeps : (xs : List ℕ) (n : ℕ) (day : List ℕ) → eqb (answer (holding xs n) day).number 0 ≡ false → step (holding xs n) day ≡ holding xs n
  pub takes :
      (xs : List ℕ) (n : ℕ)
      → Read run limit xs n
      → (day : List ℕ)
      → length day ≡ day_len run n
      → answer (holding xs n) day ≡ only 0
      → step (holding xs n) day ≡ holding (xs ++ day) (n + 1)

module _
    {S : Type 0} {run : Run} {limit : ℕ} {answer : S → List ℕ → Said} {step : S → List ℕ → S} {holding : List ℕ → ℕ → S}
    (m : Machine run limit answer step holding)
  where
    -- a state that holds exactly the readings of n days
    pub record Holds (xs : List ℕ) (n : ℕ) (s : S) : Type 0 where
      pub read : Read run limit xs n
      pub in_run : n ≤ run_days run
      pub is : s ≡ holding xs n

    moved : {xs zs : List ℕ} {n k : ℕ} {s : S} → xs ≡ zs → n ≡ k → Holds xs n s → Holds zs k s
    moved e f h = rw f at (rw e at h)

    -- one day more
    module _ (xs : List ℕ) (n : ℕ) (r : Read run limit xs n) (i : n ≤ run_days run) (day : List ℕ) where
      abbrev said : Said
      said = answer (holding xs n) day

      abbrev Next : Type 0
      Next = Holds (xs ++ after said day []) (n + length (after said (day ∷ []) [])) (step (holding xs n) day)

      kept : (a : Said) → eqb a.number 0 ≡ false → a ≡ next_answer run limit n day → Next
      kept a z e =
          let is : a ≡ said = e ∙ sym (m.says xs n r day) in
          let none : xs ≡ xs ++ after said day [] = sym (append-nil xs) ∙ ap (λ (k : List ℕ). xs ++ k) (simp (← is, z)) in
          let same : n ≡ n + length (after said (day ∷ []) []) = sym (add-zero n) ∙ ap (λ (k : ℕ). n + k) (simp (← is, z)) in
          moved none same (record { read = r; in_run = i; is = m.keeps xs n day (rw is at z) })

      added : n < run_days run → length day ≡ day_len run n → highest_of day ≤ limit → only 0 ≡ next_answer run limit n day → Next
      added h l v e =
          let is : only 0 ≡ said = e ∙ sym (m.says xs n r day) in
          let all : xs ++ day ≡ xs ++ after said day [] = ap (λ (k : List ℕ). xs ++ k) (simp (← is)) in
          let more : n + 1 ≡ n + length (after said (day ∷ []) []) = ap (λ (k : ℕ). n + k) (simp (← is)) in
          moved all more (record { read = read_more run xs day n r.long r.legal v l; in_run = omega arith; is = m.takes xs n r day l (sym is) })

      holds_next : Next
      holds_next = go (dec_lt n (run_days run)) (ℕ_discrete (length day) (day_len run n)) (dec_lt limit (highest_of day))
        where
          go : Dec (n < run_days run) → Dec (length day ≡ day_len run n) → Dec (limit < highest_of day) → Next
          go (no h) l v = kept (only 13) refl (next_out run limit n day (omega arith))
          go (yes h) (no l) v = kept (only 4) refl (next_length run limit n day h l)
          go (yes h) (yes l) (yes v) = kept _ refl (next_bad run limit n day h l v refl)
          go (yes h) (yes l) (no v) = added h l (omega arith) (next_taken run limit n day h l (omega arith))

    holds_none : Holds [] 0 (holding [] 0)
    holds_none = record { read = read_none run limit; in_run = omega arith; is = refl }

    holds_day :
        (xs : List ℕ) (n : ℕ) (s : S)
        → Holds xs n s
        → (day : List ℕ)
        → Holds (xs ++ after (answer s day) day []) (n + length (after (answer s day) (day ∷ []) [])) (step s day)
    holds_day xs n s h day = rw h.is (holds_next xs n h.read h.in_run day)

    -- the state after offered days holds the readings of the taken ones
    holds_days :
        (days : List (List ℕ)) (xs : List ℕ) (n : ℕ) (s : S)
        → Holds xs n s
        → Holds (xs ++ taken_readings answer step s days) (n + length (taken_days answer step s days)) (offered step s days)
    unfolding offered taken_days one_after_other
    holds_days [] xs n s h = moved (sym (append-nil xs)) (sym (add-zero n)) h
    holds_days (day ∷ days) xs n s h =
        let one = after (answer s day) (day ∷ []) [] in
        let rest = taken_days answer step (step s day) days in
        let all : xs ++ (after (answer s day) day [] ++ one_after_other rest) ≡ xs ++ taken_readings answer step s (day ∷ days) =
        ap (λ (k : List ℕ). xs ++ k) (sym (taken_first answer step s day days)) in
        let count : n + length one + length rest ≡ n + length (one ++ rest) = omega (arith, length-append one rest) in
        moved (append_assoc xs (after (answer s day) day []) (one_after_other rest) ∙ all) count
        (holds_days days (xs ++ after (answer s day) day []) (n + length one) (step s day) (holds_day xs n s h day))

    -- days that are offered from the start, refused ones among them
    pub holds_taken :
        (start : S)
        → start ≡ holding [] 0
        → (days : List (List ℕ))
        → Holds (taken_readings answer step start days) (length (taken_days answer step start days)) (offered step start days)
    holds_taken start e days = moved refl (zero-add _) (holds_days days [] 0 start (rw e holds_none))

    -- a day is 13 only where all days are in
    pub thirteen_full : {xs : List ℕ} {n : ℕ} {s : S} → Holds xs n s → (day : List ℕ) → (answer s day).number ≡ 13 → n ≡ run_days run
    thirteen_full {xs} {n} {s} h day e =
        let same = sym (m.says xs n h.read day) ∙ ap (λ (t : S). answer t day) (sym h.is) in
        go ((next_exactly run limit n day 13).0 (ap (λ (a : Said). a.number) same ∙ e)) refl
      where
        go : {k : ℕ} → NextRow run limit n day k → k ≡ 13 → n ≡ run_days run
        go (thirteen l) f = omega (arith, h.in_run)
        go (four l c) f = absurd (omega arith)
        go (five c v) f = absurd (omega arith)
        go (zero c v) f = absurd (omega arith)

    -- a state that has all days: it holds a complete legal series
    record Full (xs : List ℕ) (s : S) : Type 0 where
      whole : s ≡ holding xs (run_days run)
      legal : only 0 ≡ series_answer run limit xs

    full_holds : (xs : List ℕ) (s : S) → Holds xs (run_days run) s → Full xs s
    full_holds xs s h =
        record { whole = h.is; legal = series_legal run limit xs (h.read.long ∙ run_all run) h.read.legal }

    -- as many days are taken as the run has
    all_taken :
        (start : S)
        → start ≡ holding [] 0
        → (days : List (List ℕ))
        → length (taken_days answer step start days) ≡ run_days run
        → Full (taken_readings answer step start days) (offered step start days)
    all_taken start e days full = full_holds _ _ (moved refl full (holds_taken start e days))

    -- the state after the first n days of a series
    abbrev state_at : List ℕ → ℕ → S
    state_at xs n = offered step (holding [] 0) (days_of run xs n)

    -- a series of the run's length, given by its days, the first `end` of which are legal
    module _
        (xs : List ℕ) (l : length xs ≡ run_readings run) (end : ℕ) (in_run : end ≤ run_days run)
        (legal : (n : ℕ) → n < end → day_peak run xs n ≤ limit)
      where
        held : (n : ℕ) → n < run_days run → Held run xs n
        held n h = record { on = h; inside = omega (arith, run_held run n h) }

        -- a day that is handed out has the readings of its place in the series
        part_peak : (n : ℕ) → n < run_days run → highest_of (run_part run xs (n + 1)) ≡ day_peak run xs n
        unfolding highest_of day_peak
        part_peak n h = rw (length_part run xs n (held n h)) (largest_cong _ _ (day_len run n) (λ p k. part_at run xs n (held n h) p k))

        abbrev Took : ℕ → Type 0
        Took n = Holds (take (day_start run n) xs) n (state_at xs n)

        took_said : (n : ℕ) → Took n → (day : List ℕ) → answer (state_at xs n) day ≡ next_answer run limit n day
        took_said n t day = ap (λ (s : S). answer s day) t.is ∙ m.says (take (day_start run n) xs) n t.read day

        -- one of the first days
        module _ (n : ℕ) (h : n < end) where
          inside : n < run_days run
          inside = omega (arith, in_run)

          long : length (run_part run xs (n + 1)) ≡ day_len run n
          long = length_part run xs n (held n inside)

          low : highest_of (run_part run xs (n + 1)) ≤ limit
          low = omega (arith, part_peak n inside, legal n h)

          legal_said : only 0 ≡ next_answer run limit n (run_part run xs (n + 1))
          legal_said = next_taken run limit n (run_part run xs (n + 1)) inside long low

          took_more : Took n → Took (n + 1)
          took_more t =
              let before = take (day_start run n) xs in
              let day = run_part run xs (n + 1) in
              moved (part_more run xs n (held n inside)) refl
              (record {
                read = read_more run before day n t.read.long t.read.legal low long;
                in_run = omega (arith, inside);
                is =
                    days_more step run (holding [] 0) xs n ∙ ap (λ (s : S). step s day) t.is
                    ∙ m.takes before n t.read day long (m.says before n t.read day ∙ sym legal_said);
              })

        took : (n : ℕ) → n ≤ end → Took n
        took zero h =
            moved (sym (part_none_yet run xs)) refl
            (record { read = read_none run limit; in_run = omega arith; is = days_none step run (holding [] 0) xs })
        took (suc n) h =
            let more : n + 1 ≡ suc n = omega arith in
            rw more at (took_more n (omega arith) (took n (omega arith)))

        taken_before : (n : ℕ) → n < end → answer (state_at xs n) (run_part run xs (n + 1)) ≡ only 0
        taken_before n h = took_said n (took n (omega arith)) (run_part run xs (n + 1)) ∙ sym (legal_said n h)

    -- closing a state that holds a complete legal series gives what the whole series does
    module _
        {A : Type 0} (closes : S → A) (whole : List ℕ → A)
        (same : (xs : List ℕ) → only 0 ≡ series_answer run limit xs → closes (holding xs (run_days run)) ≡ whole xs)
      where
        -- a complete legal series
        module _ (xs : List ℕ) (s : LegalSeries run limit xs) where
          each : (n : ℕ) → n < run_days run → day_peak run xs n ≤ limit
          unfolding day_peak
          each n h = largest_le (reading run xs n) (day_len run n) limit (λ p k. s.legal n p h k)

          said_all : (d : ℕ) → d < run_days run → answer (state_at xs d) (run_part run xs (d + 1)) ≡ only 0
          said_all = taken_before xs s.long (run_days run) (omega arith) each

          closed_all : closes (state_at xs (run_days run)) ≡ whole xs
          closed_all =
              let t = took xs s.long (run_days run) (omega arith) each (run_days run) (omega arith) in
              let all : take (day_start run (run_days run)) xs ≡ xs = take_all (day_start run (run_days run)) xs (omega (arith, run_all run, s.long)) in
              ap closes (t.is ∙ ap (λ (ys : List ℕ). holding ys (run_days run)) all) ∙ same xs (sym ((legal_series run limit xs).1 s))

        -- Rule 9.4: once every day was taken, closing gives what the call for the whole series gives
        pub as_whole :
            (start : S)
            → start ≡ holding [] 0
            → AsWhole run limit answer step start closes whole
        as_whole start e =
            record {
              taken = λ days full. let f = all_taken start e days full in ap closes f.whole ∙ same _ f.legal;
              every_day = λ xs s d h. rw e (said_all xs s d h);
              all_days = λ xs s. rw e (closed_all xs s);
            }

    -- a series with an illegal reading, given by its days
    module _
        (xs : List ℕ) (l : length xs ≡ run_readings run) (bad : limit < peak_of run xs (run_days run))
      where
        abbrev there : ℕ
        there = bad_day run limit xs

        found : there < run_days run
        found = peak_illegal run limit xs bad

        part_bad : (n : ℕ) → n < run_days run → first_above limit (run_part run xs (n + 1)) ≡ bad_at run limit xs n
        unfolding first_above bad_at
        part_bad n h =
            let inside : Held run xs n = record { on = h; inside = omega (arith, run_held run n h) } in
            rw (length_part run xs n inside) (first_cong _ _ (day_len run n) (λ p k. ap (illegal limit) (part_at run xs n inside p k)))

        -- the days before it are taken
        before_taken : (n : ℕ) → n < there → answer (state_at xs n) (run_part run xs (n + 1)) ≡ only 0
        before_taken = taken_before xs l there (omega (arith, found)) (before_legal run limit xs bad)

        -- and its day answers the place
        bad_there : answer (state_at xs there) (run_part run xs (there + 1)) ≡ bad_place (first_illegal run limit xs)
        unfolding first_illegal
        bad_there =
            let peak = part_peak xs l there (omega (arith, found)) (before_legal run limit xs bad) there found in
            let inside : Held run xs there = record { on = found; inside = omega (arith, run_held run there found) } in
            let t = took xs l there (omega (arith, found)) (before_legal run limit xs bad) there (omega arith) in
            took_said xs l there (omega (arith, found)) (before_legal run limit xs bad) there t (run_part run xs (there + 1))
            ∙ sym
            (next_bad run limit there (run_part run xs (there + 1)) found (length_part run xs there inside)
            (omega (arith, peak, there_bad run limit xs bad))
            (sym (part_bad there found)))
            ∙ simp (lt-ltb there (run_days run) found)

    -- where the whole series is answered 5 at a day, from 1, and a position, from 0, the days before are taken, and
    -- that day is answered the same
    pub same_bad :
        (xs : List ℕ) (d q : ℕ)
        → series_answer run limit xs ≡ bad_place (record { day = d + 1; position = q })
        → BadThere run answer step (holding [] 0) xs d q
    same_bad xs d q e = go (ℕ_discrete (length xs) (run_readings run)) (dec_lt limit (peak_of run xs (run_days run)))
      where
        number : {n : ℕ} → only n ≡ series_answer run limit xs → n ≡ 5
        number f = ap (λ (a : Said). a.number) (f ∙ e)

        here : (l : length xs ≡ run_readings run) → limit < peak_of run xs (run_days run) → bad_day run limit xs ≡ d
        here l v = omega (arith, ap (λ (a : Said). get_or a.figures 0 0) (series_bad run limit xs l v ∙ e), illegal_at run limit xs v)

        go : Dec (length xs ≡ run_readings run) → Dec (limit < peak_of run xs (run_days run)) → BadThere run answer step (holding [] 0) xs d q
        go (no l) v = absurd (omega (arith, number (series_length run limit xs l)))
        go (yes l) (no v) = absurd (omega (arith, number (series_legal run limit xs l (omega arith))))
        go (yes l) (yes v) =
            record {
              before = λ n h. before_taken xs l v n (omega (arith, here l v));
              there = rw (here l v) at (bad_there xs l v ∙ series_bad run limit xs l v ∙ e);
            }
