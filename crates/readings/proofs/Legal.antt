-- Laws of legal readings: the search for the first illegal one, and that there is one exactly where the highest is
-- illegal.
-- Assumes nothing.
use mathlib.Core.Path.{◌≡◌, refl, sym, ap, ◌∙◌}
use mathlib.Core.Bool.{Bool, true, cond}
use Rattle.std.specs.Prelude.{Option, Some, None, MatchOption, position}
use Rattle.std.specs.List.{position_or_len}
use Rattle.std.proofs.lemmas.List.Sums.{position_or_len_is}
use mathlib.Core.List.{List}
use Prim.Native.Nat.{ℕ, ◌+◌, ◌*◌, ◌≤◌, ◌<◌}
use native.Mathlib.Nat.{le_trans}
use native.Mathlib.Decide.{dec_lt}
use native.Mathlib.Omega.{arith}
use borrow.Author.Tests.{lt-ltb, le-ltb, ltb-true, ltb-false}
use lib.Dec.{ltb}
use lib.ListN.{length, get_or}
use Rattle.ranges.specs.Ranges.{any_over}
use Rattle.ranges.proofs.Largest.{largest_above}
use Rattle.ranges.proofs.Tests.{Passed, any_at, any_fails, any_cong, all_passed, passed_more}
use Rattle.ranges.proofs.First.{first_fails, first_at, first_le, first_below, first_holds, any_first, any_above}
use Rattle.dates.specs.Dates.{most_days}
use Rattle.readings.specs.declared.Run.{Run}
use Rattle.readings.specs.declared.Change.{Change}
use Rattle.readings.specs.Runs.{run_days, change_of, len_by, start_by, day_len, day_start, reading_by, reading}
use Rattle.readings.specs.Legal.{illegal, highest_of, first_above, place_above, day_peak, peak_of, bad_in, bad_at, bad_day, first_illegal}

-- a reading of the first n days is at most their peak
pub reading_le : (run : Run) (xs : List ℕ) (n d p : ℕ) → d < n → p < day_len run d → reading run xs d p ≤ peak_of run xs n
unfolding peak_of day_peak
reading_le run xs n d p h m =
    le_trans (largest_above (reading run xs d) (day_len run d) p m) (largest_above (day_peak run xs) n d h)

-- some readings: the code's search
module _ (limit : ℕ) (xs : List ℕ) where
  abbrev pub above : ℕ → Bool
  above i = illegal limit (get_or xs i 0)

  pub above_found : {i : ℕ} → Passed above i → i < length xs → limit < get_or xs i 0 → i ≡ first_above limit xs
  unfolding first_above
  above_found {i} h l v = sym (first_at above (length xs) i l (lt-ltb limit (get_or xs i 0) v) h.fails)

  pub above_none : {i : ℕ} → Passed above i → length xs ≤ i → length xs ≡ first_above limit xs
  unfolding first_above
  above_none h l = sym (first_fails above (length xs) (λ k b. h.fails k (omega arith)))

  -- where the highest is legal all are, and else there is a first that is not
  pub highest_legal : highest_of xs ≤ limit → length xs ≤ first_above limit xs
  unfolding highest_of first_above
  highest_legal h =
      let e = any_above (λ i. get_or xs i 0) limit (length xs) ∙ le-ltb limit _ h in
      ltb-false _ _ (sym (any_first above (length xs)) ∙ e)

  pub highest_illegal : limit < highest_of xs → first_above limit xs < length xs
  unfolding highest_of first_above
  highest_illegal h =
      let e = any_above (λ i. get_or xs i 0) limit (length xs) ∙ lt-ltb limit _ h in
      ltb-true _ _ (sym (any_first above (length xs)) ∙ e)

  -- so where the search ends tells it
  pub found_illegal : first_above limit xs < length xs → limit < highest_of xs
  found_illegal h = go (dec_lt limit (highest_of xs))
    where
      go : Dec (limit < highest_of xs) → limit < highest_of xs
      go (yes l) = l
      go (no l) = absurd (omega (arith, h, highest_legal (omega arith)))

  pub none_illegal : length xs ≤ first_above limit xs → highest_of xs ≤ limit
  none_illegal h = go (dec_lt limit (highest_of xs))
    where
      go : Dec (limit < highest_of xs) → highest_of xs ≤ limit
      go (yes l) = absurd (omega (arith, h, highest_illegal l))
      go (no l) = omega arith

  -- the first place that passes is where the search ends, if it ends before the last reading
  pub position_above : position (illegal limit) xs ≡ place_above limit xs
  unfolding first_above
  position_above =
      let e : position_or_len (illegal limit) xs ≡ first_above limit xs =
      position_or_len_is (illegal limit) xs _ 0 (first_le above (length xs)) (first_below above (length xs)) (first_holds above (length xs)) in
      ap (λ (n : ℕ). cond (ltb n (length xs)) (Some n) None) e

  pub legal_place : highest_of xs ≤ limit → None ≡ place_above limit xs
  legal_place h = simp (le-ltb (first_above limit xs) (length xs) (highest_legal h))

  -- and so a place that is handed back is the first, and none is handed back only where all readings are legal
  abbrev pub Placed : Option ℕ → Type 0
  Placed o = MatchOption o (highest_of xs ≤ limit) (λ i. (i ≡ first_above limit xs) × (i < length xs) × (limit < highest_of xs))

  pub placed : {o : Option ℕ} → o ≡ place_above limit xs → Placed o
  placed e = rw e (go (dec_lt (first_above limit xs) (length xs)))
    where
      go : Dec (first_above limit xs < length xs) → Placed (place_above limit xs)
      go (yes l) = rw (lt-ltb (first_above limit xs) (length xs) l) (refl, l, found_illegal l)
      go (no l) = rw (le-ltb (first_above limit xs) (length xs) (omega arith)) (none_illegal (omega arith))

-- a search through days and through the positions of a day, whichever are the two Sundays
module _ (c : Change) (limit : ℕ) (xs : List ℕ) where
  abbrev pub bad_from : ℕ → ℕ → Bool
  bad_from d p = illegal limit (reading_by c xs d p)

  abbrev pub bad_by : ℕ → Bool
  bad_by d = any_over (bad_from d) (len_by c d)

  -- a position more without an illegal reading
  pub legal_more : (d : ℕ) {p i : ℕ} → Passed (bad_from d) p → i ≡ start_by c d + p → get_or xs i 0 ≤ limit → Passed (bad_from d) (p + 1)
  legal_more d {p} {i} h e v = passed_more h (rw e at (le-ltb limit (get_or xs i 0) v))

  -- a day without one, and a day more
  pub day_legal : (d : ℕ) {p : ℕ} → Passed bad_by d → Passed (bad_from d) p → len_by c d ≤ p → Passed bad_by (d + 1)
  day_legal d {p} h g l = passed_more h (any_fails (bad_from d) (len_by c d) (λ k b. g.fails k (omega arith)))

  -- what the search keeps before day d, and before position p of that day
  pub record Searching (days day position d : ℕ) : Type 0 where
    pub some : d ≤ days
    pub few : days ≤ most_days
    pub no_day_law : day ≡ 0
    pub no_position : position ≡ 0
    pub passed : Passed bad_by d

  pub record InDay (days day position d start len p : ℕ) : Type 0 where
    pub outer : Searching days day position d
    pub less : d < days
    pub from : start ≡ start_by c d
    pub low : start ≤ 100 * d
    pub size : len ≡ len_by c d
    pub most : len ≤ 100
    pub upto : p ≤ len
    pub legal : Passed (bad_from d) p

-- a run
module _ (run : Run) (limit : ℕ) (xs : List ℕ) where
  abbrev at : ℕ → ℕ → Bool
  at = bad_from (change_of run) limit xs

  -- by its own Sundays the search is the run's
  pub own_search : {c : Change} {d : ℕ} → c ≡ change_of run → Passed (bad_by c limit xs) d → Passed (bad_in run limit xs) d
  unfolding bad_in
  own_search e h = rw e at h

  -- the search is through
  pub illegal_none : {d : ℕ} → Passed (bad_in run limit xs) d → run_days run ≤ d → record { day = 0; position = 0 } ≡ first_illegal run limit xs
  unfolding first_illegal bad_day
  illegal_none {d} h l =
      let e = first_fails (bad_in run limit xs) (run_days run) (λ k b. h.fails k (omega arith)) in
      simp (e, le-ltb (run_days run) (run_days run) (omega arith))

  -- the search has found
  bad_here : (d p : ℕ) → p < day_len run d → at d p ≡ true → bad_in run limit xs d ≡ true
  unfolding bad_in
  bad_here d p m t = any_at (at d) (day_len run d) p m t

  pub illegal_found :
      {d p i : ℕ}
      → Passed (bad_in run limit xs) d
      → Passed (at d) p
      → d < run_days run
      → p < day_len run d
      → i ≡ day_start run d + p
      → limit < get_or xs i 0
      → record { day = d + 1; position = p } ≡ first_illegal run limit xs
  unfolding first_illegal bad_day bad_at
  illegal_found {d} {p} {i} h g l m e v =
      let here : at d p ≡ true = rw e at (lt-ltb limit (get_or xs i 0) v) in
      let position = first_at (at d) (day_len run d) p m here g.fails in
      let day = first_at (bad_in run limit xs) (run_days run) d l (bad_here d p m here) h.fails in
      simp (day, position, lt-ltb d (run_days run) l)

  -- a day is bad exactly where its peak is above the limit, and so is a run
  pub bad_peak : (d : ℕ) → bad_in run limit xs d ≡ ltb limit (day_peak run xs d)
  unfolding bad_in day_peak
  bad_peak d = any_above (reading run xs d) limit (day_len run d)

  pub bad_run : any_over (bad_in run limit xs) (run_days run) ≡ ltb limit (peak_of run xs (run_days run))
  unfolding peak_of
  bad_run =
      any_cong (bad_in run limit xs) (λ d. ltb limit (day_peak run xs d)) (run_days run) (λ d l. bad_peak d)
      ∙ any_above (day_peak run xs) limit (run_days run)

  pub peak_legal : peak_of run xs (run_days run) ≤ limit → first_illegal run limit xs ≡ record { day = 0; position = 0 }
  peak_legal h = sym (illegal_none (all_passed (bad_in run limit xs) (run_days run) (bad_run ∙ le-ltb limit _ h)) (omega arith))

  pub peak_illegal : limit < peak_of run xs (run_days run) → bad_day run limit xs < run_days run
  unfolding bad_day
  peak_illegal h = ltb-true _ _ (sym (any_first (bad_in run limit xs) (run_days run)) ∙ (bad_run ∙ lt-ltb limit _ h))

  -- its day counts from 1
  pub illegal_at : limit < peak_of run xs (run_days run) → (first_illegal run limit xs).day ≡ bad_day run limit xs + 1
  unfolding first_illegal
  illegal_at h = simp (lt-ltb (bad_day run limit xs) (run_days run) (peak_illegal h))
