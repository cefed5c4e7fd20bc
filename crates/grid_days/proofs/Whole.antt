-- The grid as a machine of days (readings, Machines): days that are offered one by one, refused ones among them, close
-- as the whole series of the taken days; and where the whole series answers 5, the days before are taken and that day
-- answers the same place.
-- Assumes nothing.
use mathlib.Core.Path.{◌≡◌, refl, sym, ap, ◌∙◌}
use mathlib.Core.List.{List, [], ◌++◌}
use Prim.Native.Nat.{ℕ, ◌+◌, ◌/◌, ◌%◌, ◌<◌}
use native.Mathlib.Decide.{dec_lt}
use native.Mathlib.Omega.{arith}
use lib.ListN.{length}
use Rattle.ranges.proofs.Largest.{largest_cong}
use Rattle.ranges.proofs.Tables.{table_cong}
use Rattle.answers.specs.declared.Edition.{Edition}
use Rattle.answers.specs.Ruling.{grid_most, day_quarters}
use Rattle.answers.specs.Said.{Said, only, bad_place}
use Rattle.answers.proofs.Laws.{has_year, level_of, done_hands}
use Rattle.periods.specs.Period.{period_days}
use Rattle.readings.specs.declared.Run.TheVariants.{Period}
use Rattle.readings.specs.Runs.{run_days, day_start}
use Rattle.readings.specs.Days.{series_answer, BadThere, AsWhole}
use Rattle.readings.proofs.Runs.{period_run}
use Rattle.readings.proofs.Days.{Read, same_before, same_day, series_bad}
use Rattle.readings.proofs.Illegal.{some_illegal_in}
use Rattle.readings.proofs.Machines.{Machine, as_whole, same_bad}
use Rattle.sheet.specs.Bytes.{sheet_size}
use Rattle.sheet.specs.Windows.{window_places}
use Rattle.grid_days.specs.declared.Grid.{Grid}
use Rattle.grid_curves.specs.Curves.{curve_at, flat_curves, merged}
use Rattle.grid.specs.Answers.{grid_open_answer, windows_answer, windows_buffer}
use Rattle.grid_days.specs.Days.{fresh_grid, shut_grid, open_grid, grid_day_answer, day_grid, grid_close_answer, grid_close_buffer}
use Rattle.grid.specs.Rows.{WindowsRow}
use Rattle.grid.specs.Rows.WindowsRow.{five}
use Rattle.grid.proofs.Exactly.{windows_exactly}
use Rattle.grid_curves.proofs.Curves.{curves_none, curves_more, top_cong}
use Rattle.grid.proofs.Answered.{whole_refused, whole_short, whole_series, whole_finish}
use Rattle.grid.proofs.Answered.{open_done}
use Rattle.grid_days.proofs.Steps.{day_refused, day_taken_law, close_short, close_finish}

-- the curves of readings with one more day after them
module _ (y : ℕ) (xs day : List ℕ) (n : ℕ) (l : length xs ≡ day_start (Period y) n) where
  curves_before : flat_curves y xs n ≡ flat_curves y (xs ++ day) n
  unfolding flat_curves curve_at
  curves_before =
      table_cong _ _ window_places
      (λ i k. largest_cong _ _ n (λ d h. top_cong y d _ _ (λ p m. same_before (Period y) xs day n l d p h m) (i / day_quarters + 1) (i % day_quarters)))

  curves_day : merged y (flat_curves y xs n) n day ≡ flat_curves y (xs ++ day) (n + 1)
  curves_day = curves_more y (xs ++ day) n day (λ p m. same_day (Period y) xs day n l p) curves_before

module _ (ed : Edition) (y level : ℕ) where
  -- the state that holds the n days of some readings
  abbrev pub holding : List ℕ → ℕ → Grid
  holding xs n = record { edition = ed; year = y; level = level; seen = n; curves = flat_curves y xs n }

  opens_holding : fresh_grid ed y level ≡ holding [] 0
  opens_holding = λ i. record { edition = ed; year = y; level = level; seen = 0; curves = curves_none y [] i }

  pub machine : Machine (Period y) grid_most grid_day_answer day_grid holding
  machine =
      record {
        says = λ xs n r day. refl;
        keeps = λ xs n day z. sym (day_refused (holding xs n) day _ z refl).1;
        takes = λ xs n r day l e. sym (day_taken_law (holding xs n) day (sym e) refl).1 ∙ taken_is xs n r day;
      }
    where
      taken_is :
          (xs : List ℕ) (n : ℕ)
          → Read (Period y) grid_most xs n
          → (day : List ℕ)
          → ◌≡◌ {A = Grid} (record { edition = ed; year = y; level = level; seen = n + 1; curves = merged y (flat_curves y xs n) n day })
          (holding (xs ++ day) (n + 1))
      taken_is xs n r day = λ i. record { edition = ed; year = y; level = level; seen = n + 1; curves = curves_day y xs day n r.long i }

-- an accepted opening
module _ (ed : Edition) (y level : ℕ) (o : grid_open_answer ed y level ≡ only 0) where
  pub opens_empty : open_grid ed y level ≡ holding ed y level [] 0
  opens_empty = sym (done_hands (only 0) (fresh_grid ed y level) shut_grid (sym o) refl).1 ∙ opens_holding ed y level

  -- closing the state that holds all days of a legal series
  module _ (xs out : List ℕ) (legal : only 0 ≡ series_answer (Period y) grid_most xs) where
    abbrev whole : Grid
    whole = holding ed y level xs (period_days y)

    pub closes_whole :
        (grid_close_answer whole (length out) ≡ windows_answer ed y level xs (length out))
        × (grid_close_buffer whole out ≡ windows_buffer ed y level xs out)
    closes_whole = go (dec_lt (length out) sheet_size)
      where
        go :
            Dec (length out < sheet_size)
            → (grid_close_answer whole (length out) ≡ windows_answer ed y level xs (length out))
            × (grid_close_buffer whole out ≡ windows_buffer ed y level xs out)
        go (yes h) =
            let c = close_short whole out h in
            let w = whole_refused ed y level xs out (only 14) refl (whole_short ed y level xs out h) in
            (sym c.0 ∙ w.0, sym c.1 ∙ w.1)
        go (no h) =
            let c = close_finish whole out (omega arith) refl (refl, refl) in
            whole_finish ed y level xs out (omega arith) (sym o) legal refl (sym c.0, sym c.1)

  -- Rule 9.4: the same answer, and every byte of the buffer
  module _ (out : List ℕ) where
    abbrev closed : Grid → Said × List ℕ
    closed g = (grid_close_answer g (length out), grid_close_buffer g out)

    abbrev laid : List ℕ → Said × List ℕ
    laid xs = (windows_answer ed y level xs (length out), windows_buffer ed y level xs out)

    same : (xs : List ℕ) → only 0 ≡ series_answer (Period y) grid_most xs → closed (holding ed y level xs (run_days (Period y))) ≡ laid xs
    same xs legal = let c = closes_whole xs out legal in rw (period_run y) (λ i. (c.0 i, c.1 i))

    pub days_whole : AsWhole (Period y) grid_most grid_day_answer day_grid (open_grid ed y level) closed laid
    days_whole = as_whole (machine ed y level) closed laid same (open_grid ed y level) opens_empty

-- where the whole call answers 5 at a day and a position, the days before are taken, and that day answers the same
module _ (ed : Edition) (y level : ℕ) (xs out : List ℕ) (d q : ℕ) where
  abbrev pub place : Said
  place = bad_place (record { day = d + 1; position = q })

  module _ (e : windows_answer ed y level xs (length out) ≡ place) where
    opened_row : WindowsRow ed y level xs (length out) 5 → grid_open_answer ed y level ≡ only 0
    opened_row (five c v) = sym (open_done ed y level ((has_year _ _).1 c.legal_year) ((level_of _).1 c.legal_level))

    series_row : WindowsRow ed y level xs (length out) 5 → series_answer (Period y) grid_most xs ≡ windows_answer ed y level xs (length out)
    series_row (five c v) =
        let bad = series_bad (Period y) grid_most xs c.long ((some_illegal_in (Period y) grid_most xs).1 v) in
        sym bad ∙ whole_series ed y level xs out c.enough (sym (opened_row (five c v))) _ refl bad

    pub same_place : BadThere (Period y) grid_day_answer day_grid (open_grid ed y level) xs d q
    same_place =
        let row = (windows_exactly ed y level xs out 5).0 (ap (λ (a : Said). a.number) e) in
        let opened = opened_row row in
        rw (opens_empty ed y level opened) (same_bad (machine ed y level) xs d q (series_row row ∙ e))
