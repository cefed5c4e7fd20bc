-- What each number is given for at closing, by ≤ and < and ≡, where no number before it in the order is given (Rule
-- 8.2). The state g, and the room of the lent buffer. The opening's rows are `OpenRow` (grid, Rows), a day's those of
-- its run (readings, Rows).
use Rattle.std.specs.Prelude.{◌≡◌, ℕ, ◌≤◌, ◌<◌}
use Rattle.answers.specs.Ruling.{HasYear, Level}
use Rattle.periods.specs.Period.{period_days}
use Rattle.readings.specs.Legal.{highest_of}
use Rattle.sheet.specs.Bytes.{sheet_size}
use Rattle.grid_days.specs.declared.Grid.{Grid}

-- closing: the buffer has room and all days are in; on a state that no opening handed back the year or the level may be
-- refused
pub record Closes (g : Grid) (room : ℕ) : Type 0 where
  pub enough : sheet_size ≤ room
  pub full : g.seen ≡ period_days g.year

pub data CloseRow (g : Grid) (room : ℕ) : ℕ → Type 0 where
  fourteen : room < sheet_size → CloseRow g room 14
  early : sheet_size ≤ room → (g.seen ≡ period_days g.year → ⊥) → CloseRow g room 13
  seven : Closes g room → highest_of g.curves ≡ 0 → CloseRow g room 7
  one : Closes g room → 0 < highest_of g.curves → (HasYear g.edition g.year → ⊥) → CloseRow g room 1
  two : Closes g room → 0 < highest_of g.curves → HasYear g.edition g.year → (Level g.level → ⊥) → CloseRow g room 2
  zero : Closes g room → 0 < highest_of g.curves → HasYear g.edition g.year → Level g.level → CloseRow g room 0
