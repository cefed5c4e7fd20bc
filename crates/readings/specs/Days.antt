-- What readings alone decide, for a run's whole series and for one day after the other. A machine of days is anything
-- that takes days one by one: any state, with an answer to a day and a next state. Rules 8.2, 9.1, 9.3 and 9.4.
use Rattle.std.specs.Prelude.{◌≡◌, cond, not, List, [], ◌∷◌, ◌++◌, ℕ, ◌+◌, ◌<◌, leb, ltb, eqb, length}
use Rattle.ranges.specs.Ranges.{table}
use Rattle.answers.specs.Said.{Said, only, bad_place, after}
use Rattle.readings.specs.declared.Run.{Run}
use Rattle.readings.specs.Runs.{run_days, day_len, run_readings}
use Rattle.readings.specs.Legal.{first_above, first_illegal}
use Rattle.readings.specs.Illegal.{LegalSeries}
use Rattle.readings.specs.Part.{run_part}

-- a whole series: 4 for a wrong number of readings, then 5 for the first illegal one
unfoldable pub series_answer : Run → ℕ → List ℕ → Said
series_answer run limit xs =
    cond (not (eqb (length xs) (run_readings run))) (only 4)
    (cond (ltb 0 (first_illegal run limit xs).day) (bad_place (first_illegal run limit xs))
    (only 0))

-- one day more, where n days are taken: 13 where the run has no day left, then 4 for a wrong number of readings, then 5
-- for the first illegal one; the new day is day n from 0, and is named n + 1, since an answer counts days from 1
unfoldable pub next_answer : Run → ℕ → ℕ → List ℕ → Said
next_answer run limit n day =
    cond (leb (run_days run) n) (only 13)
    (cond (not (eqb (length day) (day_len run n))) (only 4)
    (cond (ltb (first_above limit day) (length day)) (bad_place (record { day = n + 1; position = first_above limit day }))
    (only 0)))

-- the number of taken days in the state of a refused opening: more than any run has, so that it takes no day and never
-- closes (Rule 9.5)
abbrev pub shut_days : ℕ
shut_days = 65535

-- the state after days that are offered one by one, refused ones among them
unfoldable pub offered : {S : Type 0} → (S → List ℕ → S) → S → List (List ℕ) → S
offered step s [] = s
offered step s (day ∷ days) = offered step (step s day) days

-- the days among them that are answered 0, in their order; and their readings, one day after the other
unfoldable pub taken_days : {S : Type 0} → (S → List ℕ → Said) → (S → List ℕ → S) → S → List (List ℕ) → List (List ℕ)
taken_days answer step s [] = []
taken_days answer step s (day ∷ days) = after (answer s day) (day ∷ []) [] ++ taken_days answer step (step s day) days

unfoldable pub one_after_other : List (List ℕ) → List ℕ
one_after_other [] = []
one_after_other (day ∷ days) = day ++ one_after_other days

abbrev pub taken_readings : {S : Type 0} → (S → List ℕ → Said) → (S → List ℕ → S) → S → List (List ℕ) → List ℕ
taken_readings answer step s days = one_after_other (taken_days answer step s days)

-- the first n days of a series, each as it is handed out: entry d of the list, from 0, is day d + 1
unfoldable pub days_of : Run → List ℕ → ℕ → List (List ℕ)
days_of run xs n = table (λ d. run_part run xs (d + 1)) n

-- a series whose days are offered to a machine: those before day d, from 0, are taken, and day d is answered 5 at
-- position q, from 0
pub record BadThere
    {S : Type 0} (run : Run) (answer : S → List ℕ → Said) (step : S → List ℕ → S) (start : S)
    (xs : List ℕ) (d q : ℕ) : Type 0
  where
    pub before : (n : ℕ) → n < d → answer (offered step start (days_of run xs n)) (run_part run xs (n + 1)) ≡ only 0
    pub there : answer (offered step start (days_of run xs d)) (run_part run xs (d + 1)) ≡ bad_place (record { day = d + 1; position = q })

-- Days from `start` on close as the whole series does (Rule 9.4): `closes` is what closing a state gives, `whole` what
-- the call for whole series gives. It is said of what the caller sees, for any machine: of its answers, and not of a
-- number that it keeps itself.
pub record AsWhole
    {S A : Type 0} (run : Run) (limit : ℕ) (answer : S → List ℕ → Said) (step : S → List ℕ → S) (start : S)
    (closes : S → A) (whole : List ℕ → A) : Type 0
  where
    -- whenever as many days were answered 0 as the run has, refused days among the offered or not
    pub taken :
        (days : List (List ℕ))
        → length (taken_days answer step start days) ≡ run_days run
        → closes (offered step start days) ≡ whole (taken_readings answer step start days)
    -- a complete legal series, offered day by day, is answered 0 every day, and closes as the whole
    pub every_day :
        (xs : List ℕ)
        → LegalSeries run limit xs
        → (d : ℕ)
        → d < run_days run
        → answer (offered step start (days_of run xs d)) (run_part run xs (d + 1)) ≡ only 0
    pub all_days : (xs : List ℕ) → LegalSeries run limit xs → closes (offered step start (days_of run xs (run_days run))) ≡ whole xs
