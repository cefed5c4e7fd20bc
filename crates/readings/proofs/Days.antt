-- Laws of series that are given whole or by their days: the cases of their answers, and readings with one more day
-- after them.
-- Assumes nothing.
use mathlib.Core.Path.{◌≡◌, refl, sym, ap, ◌∙◌}
use mathlib.Core.Logic.{◌↔◌}
use mathlib.Core.List.{List, [], ◌++◌}
use Prim.Native.Nat.{ℕ, zero, ◌+◌, ◌≤◌, ◌<◌}
use native.Mathlib.Nat.{le_trans}
use native.Mathlib.Decide.{dec_lt, ℕ_discrete}
use native.Mathlib.Omega.{arith}
use borrow.Author.Tests.{lt-ltb, le-ltb, le-leb, lt-leb, eq-eqb, ne_eqb}
use lib.ListN.{length, get_or, length-append, get_or-append}
use lib.Seq.{get_or-append-add}
use Rattle.ranges.proofs.Largest.{largest_none, largest_above, largest_le}
use Rattle.answers.specs.Said.{Said, only, bad_place}
use Rattle.answers.specs.declared.Place.{Place}
use Rattle.readings.specs.declared.Run.{Run}
use Rattle.readings.specs.Runs.{run_days, day_len, day_start, run_readings, reading}
use Rattle.readings.specs.Legal.{highest_of, first_above, day_peak, peak_of, first_illegal}
use Rattle.readings.specs.Days.{series_answer, next_answer}
use Rattle.readings.specs.Rows.{NextRow}
use Rattle.readings.specs.Rows.NextRow.{thirteen, four, five, zero}
use Rattle.readings.proofs.Runs.{start_none, start_more, start_below}
use Rattle.readings.specs.Illegal.{LegalSeries}
use Rattle.readings.proofs.Legal.{highest_legal, highest_illegal, peak_legal, illegal_at, reading_le}
use Rattle.readings.proofs.Illegal.{all_legal, some_illegal, all_legal_in}

-- a whole series
module _ (run : Run) (limit : ℕ) (xs : List ℕ) where
  pub series_length : (length xs ≡ run_readings run → ⊥) → only 4 ≡ series_answer run limit xs
  unfolding series_answer
  series_length n = simp (ne_eqb _ _ n)

  module _ (l : length xs ≡ run_readings run) where
    pub series_bad : limit < peak_of run xs (run_days run) → bad_place (first_illegal run limit xs) ≡ series_answer run limit xs
    unfolding series_answer
    series_bad v = simp (eq-eqb _ _ l, lt-ltb 0 (first_illegal run limit xs).day (omega (arith, illegal_at run limit xs v)))

    pub series_legal : peak_of run xs (run_days run) ≤ limit → only 0 ≡ series_answer run limit xs
    unfolding series_answer
    series_legal v =
        let none : (first_illegal run limit xs).day ≡ 0 = ap (λ (x : Place). x.day) (peak_legal run limit xs v) in
        simp (eq-eqb _ _ l, le-ltb 0 (first_illegal run limit xs).day (omega arith))

  -- it is accepted exactly when it is complete and legal
  pub legal_series : (series_answer run limit xs ≡ only 0) ↔ LegalSeries run limit xs
  legal_series = (
    there (ℕ_discrete (length xs) (run_readings run)) (dec_lt limit (peak_of run xs (run_days run))),
    λ s. sym (series_legal s.long ((all_legal_in run limit xs).1 s.legal)),
  )
    where
      there : Dec (length xs ≡ run_readings run) → Dec (limit < peak_of run xs (run_days run)) → series_answer run limit xs ≡ only 0 → LegalSeries run limit xs
      there (no l) v e = absurd (omega (arith, ap (λ (a : Said). a.number) (series_length l ∙ e)))
      there (yes l) (yes v) e = absurd (omega (arith, ap (λ (a : Said). a.number) (series_bad l v ∙ e)))
      there (yes l) (no v) e = record { long = l; legal = (all_legal_in run limit xs).0 (omega arith) }

-- a day, where n days are taken
module _ (run : Run) (limit n : ℕ) (day : List ℕ) where
  pub next_out : run_days run ≤ n → only 13 ≡ next_answer run limit n day
  unfolding next_answer
  next_out h = simp (le-leb _ _ h)

  module _ (h : n < run_days run) where
    pub next_length : (length day ≡ day_len run n → ⊥) → only 4 ≡ next_answer run limit n day
    unfolding next_answer
    next_length l = simp (lt-leb _ _ h, ne_eqb _ _ l)

    module _ (l : length day ≡ day_len run n) where
      pub next_bad :
          {p : ℕ}
          → limit < highest_of day
          → p ≡ first_above limit day
          → bad_place (record { day = n + 1; position = p }) ≡ next_answer run limit n day
      unfolding next_answer
      next_bad v e = rw e (simp (lt-leb _ _ h, eq-eqb _ _ l, lt-ltb _ _ (highest_illegal limit day v)))

      pub next_taken : highest_of day ≤ limit → only 0 ≡ next_answer run limit n day
      unfolding next_answer
      next_taken v = simp (lt-leb _ _ h, eq-eqb _ _ l, le-ltb _ _ (highest_legal limit day v))

-- each number is answered exactly when its row holds and none before it does
module _ (run : Run) (limit n : ℕ) (day : List ℕ) where
  next_holds : NextRow run limit n day (next_answer run limit n day).number
  next_holds = go (dec_lt n (run_days run)) (ℕ_discrete (length day) (day_len run n)) (dec_lt limit (highest_of day))
    where
      go : Dec (n < run_days run) → Dec (length day ≡ day_len run n) → Dec (limit < highest_of day)
          → NextRow run limit n day (next_answer run limit n day).number
      go (no h) l v = let k : run_days run ≤ n = omega arith in rw (← next_out run limit n day k) (thirteen k)
      go (yes h) (no l) v = rw (← next_length run limit n day h l) (four h l)
      go (yes h) (yes l) (yes v) = rw (← next_bad run limit n day h l v refl) (five (record { left = h; long = l }) ((some_illegal limit day).0 v))
      go (yes h) (yes l) (no v) =
          let k : highest_of day ≤ limit = omega arith in
          rw (← next_taken run limit n day h l k) (zero (record { left = h; long = l }) ((all_legal limit day).0 k))

  next_given : {k : ℕ} → NextRow run limit n day k → (next_answer run limit n day).number ≡ k
  next_given (thirteen h) = rw (← next_out run limit n day h)
  next_given (four h l) = rw (← next_length run limit n day h l)
  next_given (five d v) = rw (← next_bad run limit n day d.left d.long ((some_illegal limit day).1 v) refl)
  next_given (zero d v) = rw (← next_taken run limit n day d.left d.long ((all_legal limit day).1 v))

  pub next_exactly : (k : ℕ) → ((next_answer run limit n day).number ≡ k) ↔ NextRow run limit n day k
  next_exactly k = (λ e. rw e at next_holds, next_given)

-- the readings of the first n days of a run, all legal
pub record Read (run : Run) (limit : ℕ) (xs : List ℕ) (n : ℕ) : Type 0 where
  pub long : length xs ≡ day_start run n
  pub legal : peak_of run xs n ≤ limit

pub read_none : (run : Run) (limit : ℕ) → Read run limit [] 0
unfolding peak_of
read_none run limit = record { long = sym (start_none run); legal = omega (arith, largest_none (day_peak run [])) }

-- readings with one more day after them
module _ (run : Run) (xs day : List ℕ) (n : ℕ) (l : length xs ≡ day_start run n) where
  -- the days before are read as before
  pub same_before : (d p : ℕ) → d < n → p < day_len run d → reading run xs d p ≡ reading run (xs ++ day) d p
  same_before d p h m = sym (get_or-append xs day 0 (day_start run d + p) (omega (arith, start_below run n d h)))

  -- the new day is the one that was given
  pub same_day : (p : ℕ) → get_or day p 0 ≡ reading run (xs ++ day) n p
  same_day p = sym (get_or-append-add xs day p 0) ∙ ap (λ (k : ℕ). get_or (xs ++ day) (k + p) 0) l

  peak_more : {limit : ℕ} → peak_of run xs n ≤ limit → highest_of day ≤ limit → length day ≡ day_len run n → peak_of run (xs ++ day) (n + 1) ≤ limit
  unfolding peak_of day_peak highest_of
  peak_more {limit} a b e = largest_le _ (n + 1) _ (λ d h. largest_le _ (day_len run d) _ (λ p m. go d p m (dec_lt d n) h))
    where
      go : (d p : ℕ) → p < day_len run d → Dec (d < n) → d < n + 1 → reading run (xs ++ day) d p ≤ limit
      go d p m (yes h) k = le_trans (rw (same_before d p h m) at (reading_le run xs n d p h m)) a
      go d p m (no h) k =
          let here : d ≡ n = omega arith in
          rw here
          (rw (same_day p) at (le_trans (largest_above (λ i. get_or day i 0) (length day) p (omega (arith, ap (day_len run) here))) b))

  pub read_more : {limit : ℕ} → peak_of run xs n ≤ limit → highest_of day ≤ limit → length day ≡ day_len run n → Read run limit (xs ++ day) (n + 1)
  read_more a b e = record { long = length-append xs day ∙ omega (arith, start_more run n); legal = peak_more a b e }
