-- The cases of opening, each with the code's answer, or the terms, on the left.
-- Assumes nothing.
use mathlib.Core.Path.{◌≡◌, refl, sym, ap, ◌∙◌}
use mathlib.Core.Bool.{true, false}
use native.Mathlib.Decide.{ℕ_discrete}
use borrow.Author.Tests.{ne_eqb}
use lib.Dec.{eqb}
use Rattle.std.proofs.Common.{Err}
use Rattle.answers.specs.Said.{Said, only, or_else}
use Rattle.answers.proofs.Laws.{refusal_keeps, done_hands, refusal_stands}
use Rattle.holidays.specs.Holidays.{bad_holidays}
use Rattle.sheet.specs.Answers.{read_answer, ReadSaid, read_of}
use Rattle.sheet.proofs.Answered.{read_taken}
use Rattle.sheet.proofs.Exactly.{read_zero}
use Rattle.tariff.specs.Prices.{prices_out}
use Rattle.terms.specs.Basis.{Basis, basis_year, basis_edition}
use Rattle.terms.specs.declared.OpenRefusal.{OpenRefusal}
use Rattle.terms.specs.declared.OpenRefusal.TheVariants.{YearOut, LevelOut, BadHolidays, PriceOut, Malformed}
use Rattle.terms.specs.Opening.{lists_answer, customer_open_answer, terms_of, no_terms, open_terms, said_of_open_refusal, Opens}

-- what refuses an opening has a number
pub refuses : (e : OpenRefusal) → eqb (said_of_open_refusal e).number 0 ≡ false
refuses YearOut = refl
refuses LevelOut = refl
refuses BadHolidays = refl
refuses PriceOut = refl
refuses Malformed = refl

module _ (k : Basis) where
  pub open_read : (a : Said) → eqb a.number 0 ≡ false → a ≡ read_answer (basis_edition k) k.sheet → a ≡ customer_open_answer k
  unfolding customer_open_answer
  open_read a z e = refusal_stands a _ e z

  module _ (r : only 0 ≡ read_answer (basis_edition k) k.sheet) where
    pub open_holidays : bad_holidays (basis_year k) k.holidays ≡ true → only 3 ≡ customer_open_answer k
    unfolding customer_open_answer
    open_holidays h = rw (← r, h)

    module _ (h : bad_holidays (basis_year k) k.holidays ≡ false) where
      pub open_prices : prices_out k.prices ≡ true → only 6 ≡ customer_open_answer k
      unfolding customer_open_answer
      open_prices e = rw (← r, h, e)

      pub open_done : prices_out k.prices ≡ false → only 0 ≡ customer_open_answer k
      unfolding customer_open_answer
      open_done e = rw (← r, h, e)

  -- with the sheet that reading hands over, which is another beside a refusal
  abbrev said_with : ReadSaid → Said
  said_with s = or_else s.answer (lists_answer s.sheet.year k.holidays k.prices)

  pub open_said : {s : ReadSaid} → s ≡ read_of (basis_edition k) k.sheet → said_with s ≡ customer_open_answer k
  unfolding customer_open_answer
  open_said {s} e = ap said_with e ∙ go (ℕ_discrete (read_answer (basis_edition k) k.sheet).number 0)
    where
      go : Dec ((read_answer (basis_edition k) k.sheet).number ≡ 0) → said_with (read_of (basis_edition k) k.sheet) ≡ customer_open_answer k
      go (yes z) =
          ap (λ (x : ReadSaid). or_else (read_answer (basis_edition k) k.sheet) (lists_answer x.sheet.year k.holidays k.prices))
          (sym (read_taken (basis_edition k) k.sheet (read_zero (basis_edition k) k.sheet z)))
      go (no z) =
          let read = read_answer (basis_edition k) k.sheet in
          sym (refusal_stands read _ refl (ne_eqb _ _ z)) ∙ open_read read (ne_eqb _ _ z) refl

  -- beside a refusal stand the fixed terms, beside 0 those of the basis
  pub open_refused : (a : Said) → eqb a.number 0 ≡ false → a ≡ customer_open_answer k → no_terms ≡ open_terms k
  unfolding open_terms
  open_refused a z e = (refusal_keeps a (terms_of k) no_terms e z).1

  pub open_taken : only 0 ≡ customer_open_answer k → terms_of k ≡ open_terms k
  unfolding open_terms
  open_taken e = (done_hands (only 0) (terms_of k) no_terms e refl).1

  pub refused : (e : OpenRefusal) → said_of_open_refusal e ≡ customer_open_answer k → Opens k (Err e)
  refused e said = record { said = said; terms = open_refused (said_of_open_refusal e) (refuses e) said }
