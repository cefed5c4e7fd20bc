-- When each number is given over figures: its row of the table of answers holds, and no row that the call tests before
-- it. Said in plain inequalities, and proved to be the same as the tests of specs/Decision. ed is the edition, f
-- are the figures, r the rates. Rules 7.6, 8.1 and 8.2.
use Rattle.std.specs.Prelude.{◌≡◌, true, false, ℕ, ◌+◌, ◌*◌, ◌≤◌, ◌<◌}
use Rattle.answers.specs.declared.Edition.{Edition}
use Rattle.answers.specs.Edition.{whole_share}
use Rattle.answers.specs.Ruling.{least_move, least_reduction, share_of, Level}
use Rattle.tariff.specs.declared.Rates.{Rates}
use Rattle.tariff.specs.declared.Figures.{Figures}
use Rattle.tariff.specs.Prices.{LegalPrices}
use Rattle.tariff.specs.Charges.{general, charge}
use Rattle.tariff.specs.Decision.{moved}

-- legal rates: neither 2 nor 6 holds
pub record LegalRates (r : Rates) : Type 0 where
  pub legal_level : Level r.level
  pub legal_prices : LegalPrices r.prices

-- neither 8 nor 9 holds: some quarter is in-window, and the share is reached
pub record Shared (ed : Edition) (f : Figures) (r : Rates) : Type 0 where
  pub some : f.any ≡ true
  pub share : share_of ed r.level * f.peak ≤ whole_share * moved f

-- may the customer pay less: 2, 6, 8, 9, 10, else 0
pub data EligibleRow (ed : Edition) (f : Figures) (r : Rates) : ℕ → Type 0 where
  two : (Level r.level → ⊥) → EligibleRow ed f r 2
  six : Level r.level → (LegalPrices r.prices → ⊥) → EligibleRow ed f r 6
  eight : LegalRates r → f.any ≡ false → EligibleRow ed f r 8
  nine : LegalRates r → f.any ≡ true → whole_share * moved f < share_of ed r.level * f.peak → EligibleRow ed f r 9
  ten : LegalRates r → Shared ed f r → moved f < least_move ed → EligibleRow ed f r 10
  zero : LegalRates r → Shared ed f r → least_move ed ≤ moved f → EligibleRow ed f r 0

-- what the charge is: 6, 8, 11, else 0
pub data ChargeRow (ed : Edition) (f : Figures) (r : Rates) : ℕ → Type 0 where
  six : (LegalPrices r.prices → ⊥) → ChargeRow ed f r 6
  eight : LegalPrices r.prices → f.any ≡ false → ChargeRow ed f r 8
  eleven : LegalPrices r.prices → f.any ≡ true → general ed f r < charge ed f r + least_reduction ed → ChargeRow ed f r 11
  zero : LegalPrices r.prices → f.any ≡ true → charge ed f r + least_reduction ed ≤ general ed f r → ChargeRow ed f r 0

-- both: 2, 6, 8, 9, 10, 11, else 0
pub data JudgeRow (ed : Edition) (f : Figures) (r : Rates) : ℕ → Type 0 where
  two : (Level r.level → ⊥) → JudgeRow ed f r 2
  six : Level r.level → (LegalPrices r.prices → ⊥) → JudgeRow ed f r 6
  eight : LegalRates r → f.any ≡ false → JudgeRow ed f r 8
  nine : LegalRates r → f.any ≡ true → whole_share * moved f < share_of ed r.level * f.peak → JudgeRow ed f r 9
  ten : LegalRates r → Shared ed f r → moved f < least_move ed → JudgeRow ed f r 10
  eleven : LegalRates r → Shared ed f r → least_move ed ≤ moved f → general ed f r < charge ed f r + least_reduction ed → JudgeRow ed f r 11
  zero : LegalRates r → Shared ed f r → least_move ed ≤ moved f → charge ed f r + least_reduction ed ≤ general ed f r → JudgeRow ed f r 0
