-- What a sheet means: its year, its level and which quarters of which seasons are windows; and when that is legal under
-- an edition ed. The windows are one list of 384 places, from 0: four seasons one after the other, 96 quarters each.
-- Seasons s count from 1, quarters q from 0. Rules 5.3 and 5.4.
use Rattle.std.specs.Prelude.{Bool, false, ◌&&◌, List, [], ℕ, ◌+◌, ◌-◌, ◌*◌, ◌/◌, ◌%◌, ◌≤◌, ltb, leb, length, get_or, ◌≡◌}
use Rattle.ranges.specs.Limits.{Within}
use Rattle.ranges.specs.Ranges.{count_over, any_over, table}
use Rattle.answers.specs.declared.Edition.{Edition}
use Rattle.answers.specs.Ruling.{day_quarters, HasYear, Level}
use Rattle.sheet.specs.declared.Sheet.{Sheet}

-- four seasons, and four times 96 quarters
abbrev pub seasons : ℕ
seasons = 4

abbrev pub window_places : ℕ
window_places = 384

-- the place of quarter q of season s in the list
abbrev pub quarter_place : ℕ → ℕ → ℕ
quarter_place s q = day_quarters * (s - 1) + q

-- is quarter q of season s a window? None is outside seasons 1 to 4 and quarters 0 to 95.
unfoldable pub is_set : List Bool → ℕ → ℕ → Bool
is_set windows s q = leb 1 s && (leb s seasons && (ltb q day_quarters && get_or windows (quarter_place s q) false))

-- how many quarters of season s are windows
unfoldable pub set_in : List Bool → ℕ → ℕ
set_in windows s = count_over (λ q. get_or windows (quarter_place s q) false) day_quarters

-- are n set quarters of a season more than the edition's limit? And has some season more (Rule 5.3)?
abbrev pub too_many : Edition → ℕ → Bool
too_many ed n = ltb ed.limit n

unfoldable pub too_full : Edition → List Bool → Bool
too_full ed windows = any_over (λ k. too_many ed (set_in windows (k + 1))) seasons

-- no season has more, stated by the order ≤ alone
abbrev pub Roomy : Edition → List Bool → Type 0
Roomy ed windows = (s : ℕ) → Within 1 seasons s → set_in windows s ≤ ed.limit

-- the meaning of a legal sheet (Rule 5.3)
pub record LegalSheet (ed : Edition) (s : Sheet) : Type 0 where
  pub long : length s.windows ≡ window_places
  pub year : HasYear ed s.year
  pub level : Level s.level
  pub room : Roomy ed s.windows

-- the chosen quarters of four seasons, laid one after the other: in `chosen`, season s is entry s - 1
unfoldable pub flat_windows : List (List Bool) → List Bool
flat_windows chosen = table (λ p. get_or (get_or chosen (p / day_quarters) []) (p % day_quarters) false) window_places
