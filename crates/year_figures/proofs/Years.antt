-- Laws of a whole year's figures: a series of another length has none, and one of the year's length those of all days.
-- Assumes nothing.
use mathlib.Core.Path.{◌≡◌, sym, ◌∙◌}
use mathlib.Core.Bool.{Bool}
use mathlib.Core.List.{List}
use Prim.Native.Nat.{ℕ}
use native.Mathlib.Decide.{ℕ_discrete}
use borrow.Author.Tests.{eq-eqb, ne_eqb}
use lib.ListN.{length}
use Rattle.std.specs.Prelude.{Result, Ok, Err}
use Rattle.dates.specs.Dates.{year_days}
use Rattle.readings.specs.declared.Run.TheVariants.{Year}
use Rattle.readings.specs.Runs.{run_readings}
use Rattle.tariff.specs.declared.Figures.{Figures}
use Rattle.year_figures.specs.declared.WrongLength.{WrongLength}
use Rattle.year_figures.specs.Year.{figures_in, wrong_length, year_figures}

module _ (y : ℕ) (carrying windows : List Bool) (xs : List ℕ) where
  pub year_none : (length xs ≡ run_readings (Year y) → ⊥) → Err wrong_length ≡ year_figures y carrying windows xs
  unfolding year_figures
  year_none n = simp (ne_eqb _ _ n)

  pub year_all : length xs ≡ run_readings (Year y) → Ok (figures_in y carrying windows xs (year_days y)) ≡ year_figures y carrying windows xs
  unfolding year_figures
  year_all e = simp (eq-eqb _ _ e)

  -- and read off the answer: figures are those of all days, and a refusal is a series of another length
  module _ {r : Result Figures WrongLength} (e : r ≡ year_figures y carrying windows xs) where
    pub year_refused : r ≡ Err wrong_length → length xs ≡ run_readings (Year y) → ⊥
    year_refused h l = let z = year_all l in absurd (cc)

    pub year_told : {f : Figures} → r ≡ Ok f → (length xs ≡ run_readings (Year y)) × (f ≡ figures_in y carrying windows xs (year_days y))
    year_told {f} h = go (ℕ_discrete (length xs) (run_readings (Year y)))
      where
        go : Dec (length xs ≡ run_readings (Year y)) → (length xs ≡ run_readings (Year y)) × (f ≡ figures_in y carrying windows xs (year_days y))
        go (yes l) = let same = sym h ∙ e ∙ sym (year_all l) in (l, (cc))
        go (no l) = let other = sym h ∙ e ∙ sym (year_none l) in absurd (cc)
