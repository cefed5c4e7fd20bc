-- Today's edition gives the forms of specs/Forms.
-- Assumes nothing.
use mathlib.Core.Path.{◌≡◌, sym, ◌∙◌}
use Prim.Native.Nat.{ℕ, ◌*◌}
use native.Mathlib.Omega.{arith}
use borrow.Author.Tests.{lt-ltb, ltb-true}
use lib.Dec.{ltb}
use Rattle.ranges.proofs.Bools.{same_order}
use Rattle.answers.specs.Edition.{whole_share, today}
use Rattle.windows.specs.Chosen.{above_line}
use Rattle.tariff.proofs.Charges.{floor_least}
use Rattle.demands.specs.Forms.{TodayForms}

-- the test of the line, in twentieths
pub line_form : (peak value : ℕ) → above_line today peak value ≡ ltb (19 * peak) (20 * value)
unfolding above_line
line_form peak value =
    same_order (today.line * peak) (whole_share * value) (19 * peak) (20 * value) (λ l. omega arith) (λ l. omega arith)

pub today_forms : TodayForms
today_forms =
    record {
      line = λ peak value. (
        (λ e. ltb-true (19 * peak) (20 * value) (sym (line_form peak value) ∙ e)),
        λ l. line_form peak value ∙ lt-ltb (19 * peak) (20 * value) l,
      );
      hours = λ f. (ltb-true f.sum (10000 * f.peak), lt-ltb f.sum (10000 * f.peak));
      fifth = λ g. omega (arith, (floor_least today g).0);
      least = λ g k l. omega (arith, (floor_least today g).1 k l);
    }
