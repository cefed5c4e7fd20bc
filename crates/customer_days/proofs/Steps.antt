-- The cases of opening, of a day and of closing, each with the code's answer, or the next state, on the left.
-- Assumes nothing.
use mathlib.Core.Path.{◌≡◌, refl, sym, ap, ◌∙◌}
use mathlib.Core.Bool.{true, false}
use mathlib.Core.List.{List}
use Prim.Native.Nat.{ℕ}
use borrow.Author.Tests.{eq-eqb, ne_eqb}
use lib.Dec.{eqb}
use Rattle.answers.specs.Ruling.{customer_most}
use Rattle.answers.specs.Said.{Said, only}
use Rattle.answers.proofs.Laws.{refusal_keeps, done_hands}
use Rattle.dates.specs.Dates.{year_days}
use Rattle.readings.specs.declared.Run.TheVariants.{Year}
use Rattle.readings.specs.Days.{shut_days, next_answer}
use Rattle.terms.specs.declared.Terms.{Terms}
use Rattle.terms.specs.Basis.{Basis}
use Rattle.terms.specs.Opening.{customer_open_answer, terms_of, open_terms}
use Rattle.terms.proofs.Answered.{open_refused, open_taken}
use Rattle.figures.specs.Figures.{no_figures}
use Rattle.customer_days.specs.declared.Customer.{Customer}
use Rattle.customer.specs.Answers.{judged}
use Rattle.customer_days.specs.Days.{fresh_customer, shut_customer, open_customer, overfull, day_under, customer_day_answer, customer_taken, day_customer, customer_close_answer}

-- opening: with the terms that it hands over, a refusal hands back the fixed state, 0 a year without a day
module _ (k : Basis) where
  pub opened_state : only 0 ≡ customer_open_answer k → fresh_customer (terms_of k) ≡ open_customer k
  unfolding open_customer
  opened_state o = (done_hands (only 0) (fresh_customer (terms_of k)) shut_customer o refl).1

  module _ {t : Terms} (e : t ≡ open_terms k) where
    pub open_begins : only 0 ≡ customer_open_answer k → fresh_customer t ≡ open_customer k
    open_begins o = ap fresh_customer (e ∙ sym (open_taken k o)) ∙ opened_state o

    pub open_shuts :
        (a : Said)
        → eqb a.number 0 ≡ false
        → a ≡ customer_open_answer k
        → record { terms = t; seen = shut_days; figures = no_figures } ≡ open_customer k
    unfolding open_customer
    open_shuts a z o =
        ap (λ (u : Terms). record { terms = u; seen = shut_days; figures = no_figures }) (e ∙ sym (open_refused k a z o))
        ∙ (refusal_keeps a (fresh_customer (terms_of k)) shut_customer o z).1

-- a day
module _ (c : Customer) (day : List ℕ) where
  pub day_refused : (a : Said) → eqb a.number 0 ≡ false → a ≡ customer_day_answer c day → c ≡ day_customer c day
  unfolding day_customer
  day_refused a z e = (refusal_keeps a _ c e z).1

  pub day_taken_law : {next : Customer} → only 0 ≡ customer_day_answer c day → next ≡ customer_taken c day → next ≡ day_customer c day
  unfolding day_customer
  day_taken_law z e = e ∙ (done_hands (only 0) (customer_taken c day) c z refl).1

  pub day_said : {a : Said} → a ≡ day_under c.terms.rates.year c.seen c.figures.sum day → a ≡ customer_day_answer c day
  unfolding customer_day_answer
  day_said e = e

  pub day_over : overfull c ≡ true → only 13 ≡ customer_day_answer c day
  unfolding customer_day_answer
  day_over o = rw o

  pub day_next :
      {a : Said}
      → overfull c ≡ false
      → a ≡ next_answer (Year c.terms.rates.year) customer_most c.seen day
      → a ≡ customer_day_answer c day
  unfolding customer_day_answer
  day_next o e = rw o e

-- closing
module _ (c : Customer) where
  pub close_early : (c.seen ≡ year_days c.terms.rates.year → ⊥) → only 13 ≡ customer_close_answer c
  unfolding customer_close_answer
  close_early n = simp (ne_eqb _ _ n)

  pub close_judged : {a : Said} → c.seen ≡ year_days c.terms.rates.year → a ≡ judged c.terms c.figures → a ≡ customer_close_answer c
  unfolding customer_close_answer
  close_judged n e = e ∙ simp (eq-eqb _ _ n)
