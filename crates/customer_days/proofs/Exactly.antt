-- Each number of each call is given exactly when its row holds and no number before it is given.
-- Assumes nothing.
use mathlib.Core.Path.{◌≡◌, refl, ◌∙◌}
use mathlib.Core.Logic.{◌↔◌}
use mathlib.Core.List.{List}
use Prim.Native.Nat.{ℕ, zero, ◌≤◌, ◌<◌}
use native.Mathlib.Decide.{dec_lt, ℕ_discrete}
use native.Mathlib.Omega.{arith}
use borrow.Author.Tests.{lt-ltb, le-ltb}
use Rattle.answers.specs.Ruling.{customer_most}
use Rattle.answers.specs.Said.{Said, only}
use Rattle.dates.specs.Dates.{year_days}
use Rattle.readings.specs.declared.Run.TheVariants.{Year}
use Rattle.readings.specs.Illegal.{AllLegal}
use Rattle.readings.specs.Days.{next_answer}
use Rattle.readings.specs.Rows.{NextRow}
use Rattle.readings.specs.Rows.NextRow.{thirteen, four, five, zero}
use Rattle.readings.proofs.Illegal.{all_legal}
use Rattle.readings.proofs.Days.{next_taken, next_exactly}
use Rattle.tariff.proofs.Exactly.{judge_exactly}
use Rattle.customer_days.specs.declared.Customer.{Customer}
use Rattle.customer_days.specs.Days.{sum_most, customer_day_answer, customer_close_answer}
use Rattle.customer_days.specs.Rows.{DayFits, CustomerDayRow, CustomerCloseRow}
use Rattle.customer_days.specs.Rows.CustomerDayRow.{over, next}
use Rattle.customer_days.specs.Rows.CustomerCloseRow.{early, judged}
use Rattle.customer_days.proofs.Steps.{day_over, day_next, close_early, close_judged}
use Rattle.customer.proofs.Exactly.{number}

-- a day
module _ (c : Customer) (day : List ℕ) where
  abbrev answered : Said
  answered = next_answer (Year c.terms.rates.year) customer_most c.seen day

  day_holds : CustomerDayRow c day (customer_day_answer c day).number
  day_holds = go (dec_lt (sum_most c.seen) c.figures.sum)
    where
      go : Dec (sum_most c.seen < c.figures.sum) → CustomerDayRow c day (customer_day_answer c day).number
      go (yes o) = rw (← day_over c day (lt-ltb _ _ o)) (over o)
      go (no o) =
          let l : c.figures.sum ≤ sum_most c.seen = omega arith in
          rw (number (day_next c day {a = answered} (le-ltb _ _ l) refl))
          (next l ((next_exactly (Year c.terms.rates.year) customer_most c.seen day _).0 refl))

  day_given_law : {n : ℕ} → CustomerDayRow c day n → (customer_day_answer c day).number ≡ n
  day_given_law (over o) = number (day_over c day (lt-ltb _ _ o))
  day_given_law (next l r) =
      number (day_next c day {a = answered} (le-ltb _ _ l) refl) ∙ (next_exactly (Year c.terms.rates.year) customer_most c.seen day _).1 r

  pub customer_day_exactly : (n : ℕ) → ((customer_day_answer c day).number ≡ n) ↔ CustomerDayRow c day n
  customer_day_exactly n = (λ e. rw e at day_holds, day_given_law)

  -- 0 is given for a legal day that fits
  taken_day : (customer_day_answer c day).number ≡ 0 → DayFits c day × AllLegal customer_most day
  taken_day e = go ((customer_day_exactly 0).0 e) refl
    where
      of_run :
          {n : ℕ}
          → c.figures.sum ≤ sum_most c.seen
          → NextRow (Year c.terms.rates.year) customer_most c.seen day n
          → n ≡ 0
          → DayFits c day × AllLegal customer_most day
      of_run l (thirteen h) k = absurd (omega arith)
      of_run l (four h m) k = absurd (omega arith)
      of_run l (five d v) k = absurd (omega arith)
      of_run l (zero d v) k = (record { next = d; fair = l }, v)

      go : {n : ℕ} → CustomerDayRow c day n → n ≡ 0 → DayFits c day × AllLegal customer_most day
      go (over o) k = absurd (omega arith)
      go (next l r) k = of_run l r k

  pub day_fits : (customer_day_answer c day).number ≡ 0 → DayFits c day
  day_fits e = (taken_day e).0

  -- and it carries nothing
  pub day_zero : (customer_day_answer c day).number ≡ 0 → only 0 ≡ customer_day_answer c day
  day_zero e =
      let d = taken_day e in
      day_next c day (le-ltb _ _ d.0.fair) (next_taken _ _ _ _ d.0.next.left d.0.next.long ((all_legal customer_most day).1 d.1))

-- closing
module _ (c : Customer) where
  close_holds : CustomerCloseRow c (customer_close_answer c).number
  close_holds = go (ℕ_discrete c.seen (year_days c.terms.rates.year))
    where
      go : Dec (c.seen ≡ year_days c.terms.rates.year) → CustomerCloseRow c (customer_close_answer c).number
      go (no n) = rw (← close_early c n) (early n)
      go (yes n) = rw (number (close_judged c n refl)) (judged n ((judge_exactly c.terms.edition c.figures c.terms.rates _).0 refl))

  close_given : {n : ℕ} → CustomerCloseRow c n → (customer_close_answer c).number ≡ n
  close_given (early n) = number (close_early c n)
  close_given (judged n r) =
      number (close_judged c n refl) ∙ (judge_exactly c.terms.edition c.figures c.terms.rates _).1 r

  pub customer_close_exactly : (n : ℕ) → ((customer_close_answer c).number ≡ n) ↔ CustomerCloseRow c n
  customer_close_exactly n = (λ e. rw e at close_holds, close_given)
