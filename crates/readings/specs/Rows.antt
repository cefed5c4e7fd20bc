-- When each number is answered to a day, where n days of a run are taken, stated by equality, ≤ and < alone: its own
-- condition holds, and that of no number before it in the order 13, 4, 5. That `next_answer` agrees is proved in
-- proofs/Days. Rule 8.2.
use Rattle.std.specs.Prelude.{◌≡◌, List, ℕ, ◌≤◌, ◌<◌, length}
use Rattle.readings.specs.declared.Run.{Run}
use Rattle.readings.specs.Runs.{run_days, day_len}
use Rattle.readings.specs.Illegal.{AllLegal, SomeIllegal}

-- the run has a day left, day n from 0, and the given one is as long as it
pub record NextDay (run : Run) (n : ℕ) (day : List ℕ) : Type 0 where
  pub left : n < run_days run
  pub long : length day ≡ day_len run n

pub data NextRow (run : Run) (limit n : ℕ) (day : List ℕ) : ℕ → Type 0 where
  thirteen : run_days run ≤ n → NextRow run limit n day 13
  four : n < run_days run → (length day ≡ day_len run n → ⊥) → NextRow run limit n day 4
  five : NextDay run n day → SomeIllegal limit day → NextRow run limit n day 5
  zero : NextDay run n day → AllLegal limit day → NextRow run limit n day 0
