-- Laws of the days of a file: the readings in a day's bytes are the series' readings of that day, and the cases
-- of what the days are answered.
-- Assumes nothing.
use mathlib.Core.Path.{◌≡◌, refl, sym, ap, ◌∙◌}
use mathlib.Core.Bool.{Bool, true, false}
use mathlib.Core.List.{List, ◌++◌}
use Prim.Native.Nat.{ℕ, ◌+◌, ◌≤◌, ◌<◌}
use native.Mathlib.Decide.{dec_lt}
use native.Mathlib.Omega.{arith}
use borrow.Author.Tests.{lt-ltb, le-ltb, eq-eqb, ne_eqb, ltb-true, ltb-false}
use lib.Dec.{ltb}
use lib.ListN.{length, get_or, take, drop}
use lib.Seq.{take_all, take-add, length-take-le, get_or-take}
use Rattle.ranges.specs.Ranges.{first_over}
use Rattle.ranges.proofs.Bools.{clash}
use Rattle.ranges.proofs.Largest.{largest_le, largest_cong}
use Rattle.ranges.proofs.Tests.{Passed, all_passed}
use Rattle.ranges.proofs.First.{first_at, first_le, first_below, first_holds, first_cong}
use Rattle.answers.specs.Said.{Said, only, bad_place, or_else}
use Rattle.answers.proofs.Laws.{next_speaks}
use Rattle.readings.specs.declared.Run.{Run}
use Rattle.readings.specs.Runs.{run_days, change_of, day_len, day_start, run_readings, reading}
use Rattle.readings.specs.Legal.{illegal, highest_of, first_above, day_peak, peak_of, bad_in, bad_at, bad_day, first_illegal}
use Rattle.readings.specs.Days.{series_answer, next_answer}
use Rattle.readings.proofs.Runs.{start_more, start_below, run_all, run_held}
use Rattle.readings.proofs.Part.{cut_at, cut_long}
use Rattle.readings.proofs.Legal.{bad_from, bad_peak, bad_run, peak_illegal}
use Rattle.readings.proofs.Days.{series_bad, series_legal, next_bad, next_taken, Read}
use Rattle.fields.specs.Series.{readings_of, series_in, day_size, day_at, file_size, whole_days, days_answer}
use Rattle.fields.specs.File.{part}
use Rattle.fields.proofs.Bytes.{length_series, readings_part}

-- a day starts where the one before it ends
pub day_next : (run : Run) (h d : ℕ) → day_at run h d + day_size run d ≡ day_at run h (d + 1)
day_next run h d = omega (arith, start_more run d)

-- the readings in the bytes of a day
abbrev pub day_in : Run → ℕ → List ℕ → ℕ → List ℕ
day_in run h bytes d = readings_of (part bytes (day_at run h d) (day_size run d))

module _ (run : Run) (h : ℕ) (bytes : List ℕ) where
  abbrev xs : List ℕ
  xs = series_in bytes h

  -- a file of the right size holds the readings of the run
  pub series_long : length bytes ≡ file_size run h → length xs ≡ run_readings run
  series_long e = omega (arith, length_series bytes h)

  pub series_all : length bytes ≡ file_size run h → take (day_start run (run_days run)) xs ≡ xs
  series_all e = take_all (day_start run (run_days run)) xs (omega (arith, series_long e, run_all run))

  -- the first d days, where the file holds them
  days_long : (d : ℕ) → day_at run h d ≤ length bytes → day_start run d ≤ length xs
  days_long d w = omega (arith, length_series bytes h)

  module _ (d : ℕ) (w : day_at run h (d + 1) ≤ length bytes) where
    day_is : day_in run h bytes d ≡ take (day_len run d) (drop (day_start run d) xs)
    day_is = readings_part bytes h (day_start run d) (day_len run d) (omega (arith, start_more run d))

    pub day_long : length (day_in run h bytes d) ≡ day_len run d
    day_long = ap length day_is ∙ cut_long xs {at = day_start run d} {size = day_len run d} refl refl (omega (arith, days_long (d + 1) w, start_more run d))

    pub day_reading : (p : ℕ) → p < day_len run d → get_or (day_in run h bytes d) p 0 ≡ reading run xs d p
    day_reading p l = rw day_is (cut_at xs refl refl p l)

    -- the readings of one day more
    pub days_more : take (day_start run d) xs ++ day_in run h bytes d ≡ take (day_start run (d + 1)) xs
    days_more =
        ap (λ (k : List ℕ). take (day_start run d) xs ++ k) day_is
        ∙ sym (take-add (day_start run d) (day_len run d) xs)
        ∙ ap (λ (n : ℕ). take n xs) (sym (start_more run d))

    -- what the day is answered, where the days before it are taken
    module _ (limit : ℕ) (l : d < run_days run) where
      day_peak_law : highest_of (day_in run h bytes d) ≡ day_peak run xs d
      unfolding highest_of day_peak
      day_peak_law = rw day_long (largest_cong _ _ (day_len run d) (λ p k. day_reading p k))

      day_first : first_above limit (day_in run h bytes d) ≡ bad_at run limit xs d
      unfolding first_above bad_at
      day_first = rw day_long (first_cong _ _ (day_len run d) (λ p k. ap (illegal limit) (day_reading p k)))

      pub day_bad :
          bad_in run limit xs d ≡ true
          → bad_place (record { day = d + 1; position = bad_at run limit xs d }) ≡ next_answer run limit d (day_in run h bytes d)
      day_bad t =
          next_bad run limit d (day_in run h bytes d) l day_long
          (omega (arith, day_peak_law, ltb-true limit (day_peak run xs d) (sym (bad_peak run limit xs d) ∙ t)))
          (sym day_first)

      pub day_fine : bad_in run limit xs d ≡ false → only 0 ≡ next_answer run limit d (day_in run h bytes d)
      day_fine t =
          next_taken run limit d (day_in run h bytes d) l day_long
          (omega (arith, day_peak_law, ltb-false limit (day_peak run xs d) (sym (bad_peak run limit xs d) ∙ t)))

  -- the first d days are read, all legal
  module _ (limit d : ℕ) (c : Passed (bad_in run limit xs) d) where
    low : (e p : ℕ) → e < d → p < day_len run e → reading run xs e p ≤ limit
    unfolding bad_in
    low e p l m = ltb-false limit (reading run xs e p) ((all_passed (bad_from (change_of run) limit xs e) (day_len run e) (c.fails e l)).fails p m)

    legal : peak_of run (take (day_start run d) xs) d ≤ limit
    unfolding peak_of day_peak
    legal =
        largest_le _ d limit
        (λ e l. largest_le _ (day_len run e) limit
        (λ p m. rw (get_or-take (day_start run d) xs (day_start run e + p) 0 (omega (arith, start_below run d e l))) (low e p l m)))

    pub days_read : day_at run h d ≤ length bytes → Read run limit (take (day_start run d) xs) d
    days_read w = record { long = length-take-le (day_start run d) xs (days_long d w); legal = legal }

  -- the days that a file holds wholly: a day that is not cut off is one of them, a day that is cut off is not
  abbrev cut : ℕ → Bool
  cut d = ltb (length bytes) (day_at run h (d + 1))

  whole : (d : ℕ) → d < run_days run → day_at run h (d + 1) ≤ length bytes → d < whole_days run h bytes
  unfolding whole_days
  whole d l w = go (dec_lt d (first_over cut (run_days run)))
    where
      go : Dec (d < first_over cut (run_days run)) → d < first_over cut (run_days run)
      go (yes b) = b
      go (no b) =
          let k = first_over cut (run_days run) in
          let past : length bytes < day_at run h (k + 1) = ltb-true _ _ (first_holds cut (run_days run) (omega arith)) in
          absurd (omega (arith, past, start_more run k, start_below run (d + 1) k (omega arith)))

  not_whole : (d : ℕ) → d < run_days run → length bytes < day_at run h (d + 1) → whole_days run h bytes ≤ d
  unfolding whole_days
  not_whole d l w = go (dec_lt d (first_over cut (run_days run)))
    where
      go : Dec (d < first_over cut (run_days run)) → first_over cut (run_days run) ≤ d
      go (yes b) = absurd (clash (lt-ltb (length bytes) (day_at run h (d + 1)) w) (first_below cut (run_days run) d b))
      go (no b) = omega arith

  all_whole : whole_days run h bytes ≤ run_days run
  unfolding whole_days
  all_whole = first_le cut (run_days run)

  -- the cases of what the days are answered, where the first d days have no illegal reading
  module _ (limit : ℕ) (done : Said) (d : ℕ) (c : Passed (bad_in run limit xs) d) where
    -- an illegal reading in a day of which all bytes are there
    pub days_bad :
        d < run_days run
        → day_at run h (d + 1) ≤ length bytes
        → bad_in run limit xs d ≡ true
        → bad_place (record { day = d + 1; position = bad_at run limit xs d }) ≡ days_answer run limit h done bytes
    unfolding days_answer first_illegal bad_day
    days_bad l w t =
        let e = first_at (bad_in run limit xs) (run_days run) d l t c.fails in
        simp (e, lt-ltb d (whole_days run h bytes) (whole d l w), lt-ltb d (run_days run) l)

    late : d ≤ run_days run → d ≤ bad_day run limit xs
    unfolding bad_day
    late l = go (dec_lt (first_over (bad_in run limit xs) (run_days run)) d)
      where
        go : Dec (first_over (bad_in run limit xs) (run_days run) < d) → d ≤ first_over (bad_in run limit xs) (run_days run)
        go (yes b) = absurd (clash (first_holds (bad_in run limit xs) (run_days run) (omega arith)) (c.fails _ b))
        go (no b) = omega arith

    no_bad : d ≤ run_days run → whole_days run h bytes ≤ d → ltb (bad_day run limit xs) (whole_days run h bytes) ≡ false
    no_bad l w = le-ltb (bad_day run limit xs) (whole_days run h bytes) (omega (arith, late l))

    -- the file ends in a day
    pub days_short : d < run_days run → length bytes < day_at run h (d + 1) → only 4 ≡ days_answer run limit h done bytes
    unfolding days_answer
    days_short l w =
        simp (
          no_bad (omega arith) (not_whole d l w),
          ne_eqb (length bytes) (file_size run h) (omega (arith, run_held run d l, start_more run d)),
        )

    -- no day is left
    module _ (all : d ≡ run_days run) where
      pub days_left : file_size run h < length bytes → only 4 ≡ days_answer run limit h done bytes
      unfolding days_answer
      days_left w =
          simp (no_bad (omega arith) (omega (arith, all_whole)), ne_eqb (length bytes) (file_size run h) (omega arith))

      pub days_done : length bytes ≡ file_size run h → done ≡ days_answer run limit h done bytes
      unfolding days_answer
      days_done e = simp (no_bad (omega arith) (omega (arith, all_whole)), eq-eqb (length bytes) (file_size run h) e)

  -- a file of the right size is answered as its whole series is
  pub days_series : (limit : ℕ) (done : Said) → length bytes ≡ file_size run h → days_answer run limit h done bytes ≡ or_else (series_answer run limit xs) done
  unfolding days_answer
  days_series limit done e = go (dec_lt limit (peak_of run xs (run_days run)))
    where
      go : Dec (limit < peak_of run xs (run_days run)) → days_answer run limit h done bytes ≡ or_else (series_answer run limit xs) done
      go (yes v) =
          let d = bad_day run limit xs in
          let l : d < run_days run = peak_illegal run limit xs v in
          simp (
            lt-ltb d (whole_days run h bytes) (whole d l (omega (arith, run_held run d l, start_more run d))),
            ← series_bad run limit xs (series_long e) v,
          )
      go (no v) =
          let c : Passed (bad_in run limit xs) (run_days run) =
          all_passed (bad_in run limit xs) (run_days run) (bad_run run limit xs ∙ le-ltb limit (peak_of run xs (run_days run)) (omega arith)) in
          sym (days_done limit done (run_days run) c refl e)
          ∙ next_speaks (only 0) done (series_legal run limit xs (series_long e) (omega arith)) refl
