-- Laws of a day's row: by it a position counts exactly when the day carries windows and the quarter is set in the
-- windows of the day's season; and the rows of a month, which lies in one season.
-- Assumes nothing.
use mathlib.Core.Path.{◌≡◌, refl, sym, ap, ◌∙◌}
use mathlib.Core.Bool.{Bool, true, false}
use mathlib.Core.List.{List, []}
use Prim.Native.Nat.{ℕ, ◌+◌, ◌≤◌, ◌<◌}
use native.Mathlib.Omega.{arith}
use lib.ListN.{get_or, take, drop}
use lib.Seq.{get_or-take, get_or-drop}
use Rattle.answers.specs.Ruling.{day_quarters}
use Rattle.dates.specs.Dates.{month_left, season_of}
use Rattle.dates.proofs.Seasons.{season_range, season_stays}
use Rattle.readings.specs.declared.Run.TheVariants.{Year}
use Rattle.readings.specs.declared.Change.{Change}
use Rattle.readings.specs.Runs.{change_of, day_len, quarter_of}
use Rattle.readings.proofs.Runs.{quarter_in_law}
use Rattle.sheet.specs.Windows.{quarter_place}
use Rattle.sheet.proofs.Windows.{set_at}
use Rattle.tariff.specs.declared.Figures.{Figures}
use Rattle.figures.specs.Figures.{record_of, taken_in}
use Rattle.figures.proofs.Taken.{record_cong}
use Rattle.day_figures.specs.Day.{in_row, with_day, row_if, with_days}
use Rattle.day_figures.proofs.Days.{days_figures}
use Rattle.year_figures.specs.Counts.{set_on, counts_on, season_row, day_row}
use Rattle.year_figures.specs.Year.{figures_in}

-- the part of the windows that is a season's
pub season_cut :
    (windows : List Bool) (s : ℕ) {start size : ℕ}
    → start ≡ quarter_place s 0
    → size ≡ day_quarters
    → take size (drop start windows) ≡ season_row windows s
season_cut windows s a b = λ i. take (b i) (drop (a i) windows)

-- the cases of a day's row
module _ (y : ℕ) (carrying windows : List Bool) (d : ℕ) where
  pub row_none : get_or carrying d false ≡ false → [] ≡ day_row y carrying windows d
  unfolding day_row
  row_none e = rw e

  pub row_some : get_or carrying d false ≡ true → season_row windows (season_of y (d + 1)) ≡ day_row y carrying windows d
  unfolding day_row
  row_some e = rw e

module _ (y : ℕ) (windows : List Bool) (d p : ℕ) (l : p < day_len (Year y) d) where
  season_counts : get_or (season_row windows (season_of y (d + 1))) (quarter_of (Year y) d p) false ≡ set_on y windows d p
  unfolding set_on
  season_counts =
      let s = season_of y (d + 1) in
      let q = quarter_of (Year y) d p in
      let h = quarter_in_law (Year y) d p l in
      let at : quarter_place s 0 + q ≡ quarter_place s q = omega arith in
      get_or-take day_quarters (drop (quarter_place s 0) windows) q false h
      ∙ get_or-drop (quarter_place s 0) windows q false
      ∙ ap (λ (k : ℕ). get_or windows k false) at
      ∙ set_at windows s q (season_range y (d + 1)) h

  -- the season's row, on a day with this flag
  pub flag_counts : (flag : Bool) → in_row (day_len (Year y) d) (row_if flag (season_row windows (season_of y (d + 1)))) p ≡ counts_on y flag windows d p
  flag_counts false = refl
  flag_counts true = season_counts

  -- the day's own row
  pub row_counts :
      (carrying : List Bool)
      → in_row (day_len (Year y) d) (day_row y carrying windows d) p ≡ counts_on y (get_or carrying d false) windows d p
  unfolding day_row
  row_counts carrying = flag_counts (get_or carrying d false)

-- so taking a day in by its row is taking in what counts
pub row_taken :
    (y : ℕ) (carrying windows : List Bool) (d : ℕ) {row : List Bool} {n : ℕ} (f : Figures) (at : ℕ → ℕ)
    → row ≡ day_row y carrying windows d
    → n ≡ day_len (Year y) d
    → with_day f n d row at ≡ taken_in f (d + 1) (record_of (day_len (Year y) d) (counts_on y (get_or carrying d false) windows d) at)
row_taken y carrying windows d f at e l =
    let len = day_len (Year y) d in
    (λ i. with_day f (l i) d (e i) at)
    ∙ ap (taken_in f (d + 1))
    (record_cong len (in_row len (day_row y carrying windows d)) _ at at (λ p m. row_counts y windows d p m carrying) (λ p m. refl))

-- n days of one month from day d, from 0, on: their flags, and the row of its season, which all of them have
module _ (y : ℕ) (carrying windows : List Bool) (d n : ℕ) (left : n ≤ month_left y (d + 1) + 1) where
  abbrev flags : List Bool
  flags = take n (drop d carrying)

  module _ {row : List Bool} (is : row ≡ season_row windows (season_of y (d + 1))) where
    month_counts :
        (k p : ℕ)
        → k < n
        → p < day_len (Year y) (d + k)
        → in_row (day_len (Year y) (d + k)) (row_if (get_or flags k false) row) p ≡ counts_on y (get_or carrying (d + k) false) windows (d + k) p
    month_counts k p l m =
        let on : d + 1 + k ≡ d + k + 1 = omega arith in
        let season = sym (season_stays y (d + 1) k (omega arith)) ∙ ap (season_of y) on in
        let flag = get_or-take n (drop d carrying) k false l ∙ get_or-drop d carrying k false in
        let len = day_len (Year y) (d + k) in
        ap (λ (b : Bool). in_row len (row_if b row) p) flag
        ∙ ap (λ (r : List Bool). in_row len (row_if (get_or carrying (d + k) false) r) p)
        (is ∙ ap (season_row windows) season)
        ∙ flag_counts y windows (d + k) p m (get_or carrying (d + k) false)

    pub month_taken :
        (xs : List ℕ) {change : Change} {f : Figures}
        → change ≡ change_of (Year y)
        → f ≡ figures_in y carrying windows xs d
        → with_days f change d flags row xs n ≡ figures_in y carrying windows xs (d + n)
    month_taken xs c e =
        rw c
        (days_figures _ (Year y) d flags row xs (λ k. counts_on y (get_or carrying k false) windows k) e n (λ k l p m. month_counts k p l m))
