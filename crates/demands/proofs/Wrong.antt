-- What specs/Wrong names is shut out: for each wrong module an input on which it breaks a demand.
-- Assumes nothing.
use native.Mathlib.Omega.{arith}
use Rattle.answers.specs.Ruling.{Level}
use Rattle.demands.specs.Wrong.{ShutOut}
use Rattle.demands.proofs.WrongWindows.{one_sheet}
use Rattle.demands.proofs.WrongYears.{one_charge, made_up_sum}
use Rattle.demands.proofs.WrongDays.{wrong_grid_days, wrong_customer_days, day_twice}
use Rattle.demands.proofs.Refusing.{refusing_always, doing_nothing}
use Rattle.demands.proofs.Ignoring.{ignoring_editions}

middle : Level 5
middle = record { from = omega arith; to = omega arith }

pub shut_out : ShutOut
shut_out =
    record {
      refusing_always = refusing_always;
      doing_nothing = doing_nothing;
      ignoring_editions = ignoring_editions;
      one_sheet = λ m d o. one_sheet m d 5 middle o;
      one_charge = one_charge;
      made_up_sum = made_up_sum;
      wrong_grid_days = λ m es y level d o wrong. wrong_grid_days m d es y level o wrong;
      wrong_customer_days = λ m k d o wrong. wrong_customer_days m d k o wrong;
      day_twice = day_twice;
    }
