-- A refusal leaves state and buffer as they were, and a refused opening hands back the fixed state.
-- Assumes nothing.
use mathlib.Core.Path.{◌≡◌, sym}
use borrow.Author.Tests.{ne_eqb}
use lib.ListN.{length}
use Rattle.editions.specs.Editions.{edition_of}
use Rattle.editions.specs.Loading.{load_answer, loaded_with}
use Rattle.answers.specs.Said.{Said, after}
use Rattle.sheet.specs.Answers.{read_answer, read_sheet, write_answer, written}
use Rattle.sheet_read.specs.Editions.{sheet_edition}
use Rattle.grid.specs.Answers.{windows_answer, windows_buffer, grid_open_answer}
use Rattle.grid_days.specs.Days.{shut_grid, grid_day_answer, day_grid, grid_close_answer, grid_close_buffer}
use Rattle.grid_days.proofs.Steps.{close_short}
use Rattle.grid_days.proofs.Only.{shut_day as grid-shut-day, shut_close as grid-shut-close}
use Rattle.terms.specs.Opening.{customer_open_answer}
use Rattle.customer_days.specs.Days.{open_customer, customer_day_answer, day_customer}
use Rattle.customer_days.proofs.Only.{shut_day as customer-shut-day, shut_close as customer-shut-close}
use Rattle.demands.specs.Module.{ours, Refused}
use Rattle.demands.specs.Refusals.{LeftAsBefore, FixedState}

-- what stands after a refusal stood before it
stays : {A : Type 0} (a : Said) (new old : A) → Refused a → after a new old ≡ old
stays a new old r = rw (ne_eqb _ _ r)

pub left_as_before : LeftAsBefore ours
unfolding loaded_with written windows_buffer day_grid grid_close_buffer day_customer
left_as_before =
    record {
      load = λ es ed r. stays (load_answer es ed) _ _ r;
      write = λ es s buffer r. stays (write_answer (edition_of es s.year) s (length buffer)) _ _ r;
      windows = λ es y level xs buffer r. stays (windows_answer (edition_of es y) y level xs (length buffer)) _ _ r;
      grid_day_law = λ g day r. stays (grid_day_answer g day) _ _ r;
      grid_close_law = λ g buffer r. stays (grid_close_answer g (length buffer)) _ _ r;
      customer_day_law = λ c day r. stays (customer_day_answer c day) _ _ r;
    }

pub fixed_state : FixedState ours
unfolding read_sheet open_customer
fixed_state =
    record {
      read = λ es b r. stays (read_answer (sheet_edition es b) b) _ _ r;
      grid_open_law = λ es y level r. stays (grid_open_answer (edition_of es y) y level) _ _ r;
      grid_day_law = grid-shut-day;
      grid_close_law = grid-shut-close;
      grid_short = λ buffer l. sym (close_short shut_grid buffer l).0;
      customer_open_law = λ k r. stays (customer_open_answer k) _ _ r;
      customer_day_law = customer-shut-day;
      customer_close_law = customer-shut-close;
    }
