-- M, S and H with its place, of a whole charge year; a series of another length than the year's is answered 4. Days d
-- count from 0. Rules 6.1 to 6.5.
use Rattle.std.specs.Prelude.{Result, Ok, Err, Bool, false, cond, List, ℕ, eqb, length, get_or}
use Rattle.dates.specs.Dates.{year_days}
use Rattle.readings.specs.declared.Run.TheVariants.{Year}
use Rattle.readings.specs.Runs.{run_readings}
use Rattle.tariff.specs.declared.Figures.{Figures}
use Rattle.figures.specs.Figures.{figures_of}
use Rattle.year_figures.specs.declared.WrongLength.{WrongLength}
use Rattle.year_figures.specs.Counts.{counts_on}

-- the figures of the first n days of year y's series; flag d of `carrying`, from 0, tells whether day d carries windows
abbrev pub figures_in : ℕ → List Bool → List Bool → List ℕ → ℕ → Figures
figures_in y carrying windows xs n = figures_of (Year y) (λ d. counts_on y (get_or carrying d false) windows d) xs n

-- what a series of another length is refused for
abbrev pub wrong_length : WrongLength
wrong_length = record {}

-- those of the whole year, or 4
unfoldable pub year_figures : ℕ → List Bool → List Bool → List ℕ → Result Figures WrongLength
year_figures y carrying windows xs =
    cond (eqb (length xs) (run_readings (Year y))) (Ok (figures_in y carrying windows xs (year_days y))) (Err wrong_length)
