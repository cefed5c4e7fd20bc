-- Today's edition has percents and hours of use. The rules have other forms of the same: 20 values against 19 peaks, S
-- against 10,000 M, five floors against one general charge. They stand here, and that today's edition gives them is
-- `today_forms` (proofs/Forms). Rules 4.4, 6.6 and 7.4.
use Rattle.std.specs.Prelude.{◌≡◌, true, ◌↔◌, ℕ, ◌*◌, ◌≤◌, ◌<◌}
use Rattle.answers.specs.Edition.{today}
use Rattle.windows.specs.Chosen.{above_line}
use Rattle.tariff.specs.declared.Figures.{Figures}
use Rattle.tariff.specs.Charges.{few_hours, floor_of}

pub record TodayForms : Type 0 where
  -- a value is above the line where 20 times it is more than 19 times the peak
  pub line : (peak value : ℕ) → (above_line today peak value ≡ true) ↔ (19 * peak < 20 * value)
  -- hours of use are fewer than 2,500 where S is less than 10,000 M
  pub hours : (f : Figures) → (few_hours today f ≡ true) ↔ (f.sum < 10000 * f.peak)
  -- the floor is the least number of whole cents of which five are no less than g
  pub fifth : (g : ℕ) → g ≤ 5 * floor_of today g
  pub least : (g k : ℕ) → k < floor_of today g → 5 * k < g
