-- A machine that is given the days of a series one by one: no day, and one day more; and the first n days as a part of
-- the series.
-- Assumes nothing.
use mathlib.Core.Path.{◌≡◌, refl, sym, ap, ◌∙◌}
use mathlib.Core.Bool.{Bool, true, false, cond}
use mathlib.Core.List.{List, [], ◌∷◌, ◌++◌}
use Prim.Native.Nat.{ℕ, ◌+◌}
use lib.Dec.{eqb}
use lib.ListN.{take}
use lib.Seq.{take-add}
use Rattle.ranges.proofs.Tables.{table_none, table_more}
use Rattle.answers.specs.Said.{Said, after}
use Rattle.readings.specs.Days.{offered, taken_days, one_after_other, taken_readings, days_of}
use Rattle.readings.specs.declared.Run.{Run}
use Rattle.readings.specs.Runs.{day_len, day_start}
use Rattle.readings.specs.Part.{run_part}
use Rattle.readings.proofs.Runs.{start_none, start_more}
use Rattle.readings.proofs.Part.{Held, part_of}

module _ {S : Type 0} (step : S → List ℕ → S) where
  offered_more : (days : List (List ℕ)) (s : S) (day : List ℕ) → offered step s (days ++ (day ∷ [])) ≡ step (offered step s days) day
  unfolding offered
  offered_more [] s day = refl
  offered_more (first ∷ days) s day = offered_more days (step s first) day

  -- a state that every day keeps
  pub offered_stays : (s : S) → ((day : List ℕ) → step s day ≡ s) → (days : List (List ℕ)) → offered step s days ≡ s
  unfolding offered
  offered_stays s keeps [] = refl
  offered_stays s keeps (day ∷ days) = ap (λ (t : S). offered step t days) (keeps day) ∙ offered_stays s keeps days

  module _ (run : Run) (start : S) (xs : List ℕ) where
    pub days_none : offered step start (days_of run xs 0) ≡ start
    unfolding offered days_of
    days_none = ap (offered step start) (table_none (λ d. run_part run xs (d + 1)))

    pub days_more : (n : ℕ) → offered step start (days_of run xs (n + 1)) ≡ step (offered step start (days_of run xs n)) (run_part run xs (n + 1))
    unfolding days_of
    days_more n =
        ap (offered step start) (table_more (λ d. run_part run xs (d + 1)) n)
        ∙ offered_more (days_of run xs n) start (run_part run xs (n + 1))

-- the readings of the taken days, one day more at the front
module _ {S : Type 0} (answer : S → List ℕ → Said) (step : S → List ℕ → S) where
  readings_first : (b : Bool) (day : List ℕ) (days : List (List ℕ)) → one_after_other (cond b (day ∷ []) [] ++ days) ≡ cond b day [] ++ one_after_other days
  unfolding one_after_other
  readings_first true day days = refl
  readings_first false day days = refl

  pub taken_first :
      (s : S) (day : List ℕ) (days : List (List ℕ))
      → taken_readings answer step s (day ∷ days) ≡ after (answer s day) day [] ++ taken_readings answer step (step s day) days
  unfolding taken_days
  taken_first s day days = readings_first (eqb (answer s day).number 0) day (taken_days answer step (step s day) days)

-- a series' readings before day n, and with it
module _ (run : Run) (xs : List ℕ) where
  pub part_none_yet : take (day_start run 0) xs ≡ []
  part_none_yet = ap (λ (k : ℕ). take k xs) (start_none run)

  pub part_more :
      (n : ℕ)
      → Held run xs n
      → take (day_start run n) xs ++ run_part run xs (n + 1) ≡ take (day_start run (n + 1)) xs
  part_more n h =
      ap (λ (day : List ℕ). take (day_start run n) xs ++ day) (part_of run xs n h)
      ∙ sym (take-add (day_start run n) (day_len run n) xs)
      ∙ ap (λ (k : ℕ). take k xs) (sym (start_more run n))
