-- The windows of a season, said by ≤ and <: the highest readings of all days of the reference period, free or not, and
-- which quarters are kept. Year y, the series xs; seasons s count from 1, days d, positions p in a day and quarters q
-- from 0. Rules 4.2 to 4.5.
use Rattle.std.specs.Prelude.{◌≡◌, Bool, ◌&&◌, ◌||◌, List, ℕ, ◌+◌, ◌*◌, ◌≤◌, ◌<◌, ltb, eqb}
use Rattle.ranges.specs.Ranges.{count_over}
use Rattle.answers.specs.declared.Edition.{Edition}
use Rattle.periods.specs.Period.{period_days, period_season}
use Rattle.readings.specs.declared.Run.TheVariants.{Period}
use Rattle.readings.specs.Runs.{day_len, quarter_of, reading}

module _ (y : ℕ) (xs : List ℕ) where
  -- no reading of the period is above b; none in quarter q of the days of season s is
  abbrev pub NoneAbove : ℕ → Type 0
  NoneAbove b = (d p : ℕ) → d < period_days y → p < day_len (Period y) d → reading (Period y) xs d p ≤ b

  abbrev pub NoneAboveIn : ℕ → ℕ → ℕ → Type 0
  NoneAboveIn s q b =
      (d p : ℕ)
      → d < period_days y
      → p < day_len (Period y) d
      → period_season y (d + 1) ≡ s
      → quarter_of (Period y) d p ≡ q
      → reading (Period y) xs d p ≤ b

  -- the peak (Rule 4.3), and the curve of season s (Rule 4.2): the least numbers of that kind, so the highest readings
  pub record IsPeak (peak : ℕ) : Type 0 where
    pub bound : NoneAbove peak
    pub least : (b : ℕ) → NoneAbove b → peak ≤ b

  pub record IsCurve (s : ℕ) (curve : ℕ → ℕ) : Type 0 where
    pub bound : (q : ℕ) → q < 96 → NoneAboveIn s q (curve q)
    pub least : (q : ℕ) → q < 96 → (b : ℕ) → NoneAboveIn s q b → curve q ≤ b

-- quarter q is kept by an edition (Rules 4.4 and 4.5): it is above the line, and of the quarters above the line fewer
-- than the limit go before it, because they are higher, or equal and earlier. `ahead q p`: quarter p goes before
-- quarter q.
module _ (ed : Edition) (peak : ℕ) (curve : ℕ → ℕ) where
  abbrev pub ahead : ℕ → ℕ → Bool
  ahead q p = ltb (ed.line * peak) (100 * curve p) && (ltb (curve q) (curve p) || (eqb (curve p) (curve q) && ltb p q))

  pub record Kept (q : ℕ) : Type 0 where
    pub above : ed.line * peak < 100 * curve q
    pub few : count_over (ahead q) 96 < ed.limit
