-- An opening gives a number exactly when that number's row holds and no row that it tests before (Rules 8.1 and 8.2).
-- Assumes nothing.
use mathlib.Core.Path.{◌≡◌, refl, sym, ap, ◌∙◌}
use mathlib.Core.Logic.{◌↔◌, ⊎_elim}
use Prim.Native.Nat.{ℕ}
use native.Mathlib.Decide.{ℕ_discrete}
use native.Mathlib.Omega.{arith}
use borrow.Author.Tests.{ne_eqb}
use Rattle.ranges.proofs.Bools.{decided, refutes}
use Rattle.answers.specs.Said.{Said, only}
use Rattle.holidays.specs.Holidays.{bad_holidays}
use Rattle.holidays.proofs.Lists.{legal_holidays}
use Rattle.sheet.specs.Answers.{read_answer, ReadSaid, read_of}
use Rattle.sheet.specs.Rows.{ReadRow}
use Rattle.sheet.specs.Rows.ReadRow.{zero}
use Rattle.sheet.proofs.Answered.{read_taken}
use Rattle.sheet.proofs.Exactly.{read_exactly, read_zero}
use Rattle.tariff.specs.Prices.{prices_out}
use Rattle.tariff.proofs.Limits.{prices_legal}
use Rattle.terms.specs.Basis.{Basis, basis_sheet, basis_year, basis_edition}
use Rattle.terms.specs.Opening.{customer_open_answer}
use Rattle.terms.specs.Rows.{LegalBasis, CustomerOpenRow}
use Rattle.terms.specs.Rows.CustomerOpenRow.{sheet, three, six, zero}
use Rattle.terms.proofs.Answered.{open_read, open_holidays, open_prices, open_done}

number : {a b : Said} → a ≡ b → b.number ≡ a.number
number e = sym (ap (λ (s : Said). s.number) e)

module _ (k : Basis) where
  module _ (r : only 0 ≡ read_answer (basis_edition k) k.sheet) where
    read_row : ReadRow (basis_edition k) k.sheet 0
    read_row = (read_exactly (basis_edition k) k.sheet 0).0 (number r)

    read_holds : CustomerOpenRow k (customer_open_answer k).number
    read_holds =
        ⊎_elim (λ h. rw (← open_holidays k r h) (three read_row ((refutes _ (legal_holidays _ k.holidays)).0 h))) (λ h.
        let legal = (legal_holidays _ k.holidays).0 h in
        ⊎_elim (λ q. rw (← open_prices k r h q) (six read_row legal ((refutes _ (prices_legal k.prices)).0 q)))
        (λ q. rw (← open_done k r h q) (zero (record { read = read_row; holidays = legal; prices = (prices_legal k.prices).0 q })))
        (decided (prices_out k.prices))) (decided (bad_holidays (basis_year k) k.holidays))

  open_holds : CustomerOpenRow k (customer_open_answer k).number
  open_holds = go (ℕ_discrete (read_answer (basis_edition k) k.sheet).number 0)
    where
      go : Dec ((read_answer (basis_edition k) k.sheet).number ≡ 0) → CustomerOpenRow k (customer_open_answer k).number
      go (yes z) = read_holds (read_zero (basis_edition k) k.sheet z)
      go (no z) =
          let e = open_read k (read_answer (basis_edition k) k.sheet) (ne_eqb _ _ z) refl in
          rw (number e) (sheet ((read_exactly (basis_edition k) k.sheet _).0 refl) z)

  -- a sheet that is read
  accepted : ReadRow (basis_edition k) k.sheet 0 → only 0 ≡ read_answer (basis_edition k) k.sheet
  accepted r = read_zero (basis_edition k) k.sheet ((read_exactly (basis_edition k) k.sheet 0).1 r)

  legal_done : LegalBasis k → only 0 ≡ customer_open_answer k
  legal_done l =
      open_done k (accepted l.read) ((legal_holidays _ k.holidays).1 l.holidays) ((prices_legal k.prices).1 l.prices)

  open_given : {n : ℕ} → CustomerOpenRow k n → (customer_open_answer k).number ≡ n
  open_given (sheet r z) =
      let e = (read_exactly (basis_edition k) k.sheet _).1 r in
      number (open_read k (read_answer (basis_edition k) k.sheet) (ne_eqb _ _ (λ q. z (sym e ∙ q))) refl) ∙ e
  open_given (three r h) = number (open_holidays k (accepted r) ((refutes _ (legal_holidays _ k.holidays)).1 h))
  open_given (six r h q) =
      number (open_prices k (accepted r) ((legal_holidays _ k.holidays).1 h) ((refutes _ (prices_legal k.prices)).1 q))
  open_given (zero l) = number (legal_done l)

  pub customer_open_exactly : (n : ℕ) → ((customer_open_answer k).number ≡ n) ↔ CustomerOpenRow k n
  customer_open_exactly n = (λ e. rw e at open_holds, open_given)

  -- 0 is given for a legal basis alone
  pub open_legal : (customer_open_answer k).number ≡ 0 → LegalBasis k
  open_legal e = go ((customer_open_exactly 0).0 e) refl
    where
      go : {n : ℕ} → CustomerOpenRow k n → n ≡ 0 → LegalBasis k
      go (sheet r z) q = absurd (z q)
      go (three r h) q = absurd (omega arith)
      go (six r h p) q = absurd (omega arith)
      go (zero l) q = l

  -- 0 has no figures
  pub open_zero : (customer_open_answer k).number ≡ 0 → only 0 ≡ customer_open_answer k
  open_zero e = legal_done (open_legal e)

  -- and beside it reading hands over what the sheet says
  pub open_meaning : {s : ReadSaid} → s ≡ read_of (basis_edition k) k.sheet → only 0 ≡ customer_open_answer k → s.sheet ≡ basis_sheet k
  open_meaning shown e =
      ap (λ (x : ReadSaid). x.sheet) (shown ∙ sym (read_taken (basis_edition k) k.sheet (accepted (open_legal (number e)).read)))
