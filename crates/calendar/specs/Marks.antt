-- How the code works inside: an array that marks the listed days, so that no list is searched. Nothing of this is
-- promised to a caller.
use Rattle.std.specs.Prelude.{◌≡◌, Bool, false, cond, List, ℕ, ◌<◌, ltb, get_or}
use Rattle.holidays.specs.Holidays.{listed}

-- the places of the array, from 0: place d marks day d, for days 0 to 367, so for a year's days and the days beside
-- them; the last place, 368, is for all other days
abbrev pub last_mark : ℕ
last_mark = 368

abbrev pub mark_places : ℕ
mark_places = 369

abbrev pub mark_place : ℕ → ℕ
mark_place d = cond (ltb d last_mark) d last_mark

abbrev pub marked : List Bool → ℕ → Bool
marked m d = get_or m d false

-- the marks say what the list says
pub record Marks (hs : List ℕ) (m : List Bool) : Type 0 where
  pub each : (d : ℕ) → d < last_mark → marked m d ≡ listed hs d
