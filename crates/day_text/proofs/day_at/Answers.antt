-- `day_text::day_at` meets its contract: year, month and day are read, and the day is numbered.
-- Assumes nothing.
use Rattle.day_text.proofs.day_at.Goals as goal

pub returns : goal.returns
returns c =
    rw (c.year_at.ensures, c.two_digits.ensures.0, c.two_digits-2.ensures.0) at c.day_number.ensures
