-- What the machine needs of the grid's series; and the machine's first state, as it is defined for the grid file.
-- Assumes nothing.
use mathlib.Core.Path.{◌≡◌, refl}
use mathlib.Core.Bool.{false}
use mathlib.Core.List.{List}
use Prim.Native.Nat.{ℕ}
use native.Mathlib.Omega.{arith}
use lib.Dec.{eqb}
use Rattle.editions.specs.declared.Editions.{Editions}
use Rattle.readings.proofs.Runs.{period_run}
use Rattle.grid_days.specs.declared.Grid.{Grid}
use Rattle.grid_days.specs.Days.{grid_day_answer, day_grid}
use Rattle.fields.proofs.Header.{fits_wider}
use Rattle.file_machine.specs.FileMachine.{KindLaws, file_start}
use Rattle.grid_head.proofs.GridLayout.{grid_count, grid_fits}
use Rattle.grid_head.specs.Header.{grid_head_most}
use Rattle.grid_file.specs.GridMachine.{grid_kind, grid_start}

kept : (g : Grid) (day : List ℕ) → eqb (grid_day_answer g day).number 0 ≡ false → day_grid g day ≡ g
unfolding day_grid
kept g day z = rw z

pub grid_laws : KindLaws grid_kind grid_head_most
grid_laws =
    record {
      fits = λ es b k. fits_wider (grid_fits es b k) (omega arith);
      few = λ es b. omega (arith, grid_count es b);
      all_days = λ s. period_run s.grid.year;
      kept = λ s day z i. record { grid = kept s.grid day z i };
    }

pub grid_start_is : (es : Editions) → file_start grid_kind es ≡ grid_start es
grid_start_is es = refl
