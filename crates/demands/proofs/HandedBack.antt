-- The states that calls hand back: after a refused opening always the fixed one; after an accepted one a state that
-- holds the taken readings.
-- Assumes nothing.
use mathlib.Core.Path.{◌≡◌, refl, sym, ap, ◌∙◌}
use mathlib.Core.Logic.{◌⊎◌, inl, inr}
use mathlib.Core.List.{List, []}
use Prim.Native.Nat.{ℕ, ◌≤◌, ◌<◌}
use native.Mathlib.Decide.{dec_lt, ℕ_discrete}
use native.Mathlib.Omega.{arith}
use lib.ListN.{length}
use Rattle.answers.specs.declared.Edition.{Edition}
use Rattle.answers.specs.Ruling.{HasYear, Level}
use Rattle.answers.specs.Said.{Said, only}
use Rattle.editions.specs.declared.Editions.{Editions}
use Rattle.editions.specs.Editions.{edition_of}
use Rattle.periods.specs.Period.{period_days}
use Rattle.readings.specs.Days.{offered, taken_days, taken_readings}
use Rattle.readings.proofs.Runs.{period_run, year_run}
use Rattle.readings.proofs.Given.{offered_stays}
use Rattle.readings.proofs.Machines.{Holds, holds_taken, thirteen_full}
use Rattle.sheet.specs.Bytes.{sheet_size}
use Rattle.grid_days.specs.declared.Grid.{Grid}
use Rattle.grid.specs.Answers.{grid_open_answer}
use Rattle.grid_days.specs.Days.{open_grid, shut_grid, grid_day_answer, day_grid, grid_close_answer}
use Rattle.grid.specs.Rows.{OpenRow}
use Rattle.grid_days.specs.Rows.{CloseRow}
use Rattle.grid.specs.Rows.OpenRow.{one, two, zero}
use Rattle.grid_days.specs.Rows.CloseRow.{fourteen, early, seven, one, two, zero}
use Rattle.grid.proofs.Exactly.{open_exactly}
use Rattle.grid_days.proofs.Exactly.{close_exactly}
use Rattle.grid_days.proofs.Whole.{holding as gridHolding, machine as gridMachine, opens_empty}
use Rattle.tariff.specs.Rows.{JudgeRow}
use Rattle.tariff.specs.Rows.JudgeRow.{two, six, eight, nine, ten, eleven, zero}
use Rattle.tariff.proofs.Answered.{number_is}
use Rattle.tariff.specs.declared.Figures.{Figures}
use Rattle.figures.specs.Figures.{figures_of}
use Rattle.terms.specs.declared.Terms.{Terms}
use Rattle.terms.specs.Basis.{Basis}
use Rattle.terms.specs.Opening.{terms_of, customer_open_answer}
use Rattle.customer_days.proofs.Steps.{opened_state}
use Rattle.customer_days.specs.declared.Customer.{Customer}
use Rattle.customer_days.specs.Days.{shut_customer, sum_most, customer_day_answer, day_customer, customer_close_answer, open_customer}
use Rattle.customer_days.specs.Rows.{CustomerCloseRow}
use Rattle.customer_days.specs.Rows.CustomerCloseRow.{early, judged}
use Rattle.customer.specs.Demand.{basis_run, basis_days}
use Rattle.customer_days.proofs.Exactly.{customer_close_exactly}
use Rattle.customer_days.proofs.Whole.{holding as customerHolding, machine as customerMachine, opens_holding, legal_sum}
use Rattle.demands.specs.Module.{ours, grid_after, customer_after, Refused}
use Rattle.demands.specs.Refusals.{zero_alone, HandedBack}
use Rattle.demands.proofs.Refusals.{left_as_before, fixed_state}
use Rattle.demands.proofs.Carried.{carried, said_is}
use Rattle.demands.proofs.Fair.{legal_opening}

-- an answer without figures
zero_alone_zero : {a : Said} → a.number ≡ 0 → a.figures ≡ zero_alone [] a.number → a ≡ only 0
zero_alone_zero {a} z l = said_is a (zero_alone []) 0 (record { listed = l }) z

-- the grid
module _ (es : Editions) (y level : ℕ) (days : List (List ℕ)) where
  abbrev ed : Edition
  ed = edition_of es y

  abbrev grid : Grid
  grid = grid_after ours es y level days

  grid_shut : Refused (grid_open_answer ed y level) → grid ≡ shut_grid
  grid_shut r =
      ap (λ (g : Grid). offered day_grid g days) (fixed_state.grid_open_law es y level r)
      ∙ offered_stays day_grid shut_grid (λ day. left_as_before.grid_day_law shut_grid day (λ z. omega (arith, number_is (fixed_state.grid_day_law day)))) days

  module _ (z : (grid_open_answer ed y level).number ≡ 0) where
    grid_holds : Holds (gridMachine ed y level) (taken_readings grid_day_answer day_grid (open_grid ed y level) days)
        (length (taken_days grid_day_answer day_grid (open_grid ed y level) days)) grid
    grid_holds =
        let opened = zero_alone_zero z (carried.grid_open_law es y level).listed in
        holds_taken (gridMachine ed y level) (open_grid ed y level) (opens_empty ed y level opened) days

    legal_grid : {n : ℕ} → OpenRow ed y level n → n ≡ 0 → HasYear ed y × Level level
    legal_grid (one a) e = absurd (omega arith)
    legal_grid (two a b) e = absurd (omega arith)
    legal_grid (zero a b) e = (a, b)

    grid_row : (xs : List ℕ) (k room : ℕ) {n : ℕ} → CloseRow (gridHolding ed y level xs k) room n → (n ≡ 1 → ⊥) × (n ≡ 2 → ⊥)
    grid_row xs k room (fourteen h) = ((λ e. omega arith), (λ e. omega arith))
    grid_row xs k room (early h f) = ((λ e. omega arith), (λ e. omega arith))
    grid_row xs k room (seven c h) = ((λ e. omega arith), (λ e. omega arith))
    grid_row xs k room (one c h a) = absurd (a (legal_grid ((open_exactly ed y level 0).0 z) refl).0)
    grid_row xs k room (two c h a b) = absurd (b (legal_grid ((open_exactly ed y level 0).0 z) refl).1)
    grid_row xs k room (zero c h a b) = ((λ e. omega arith), (λ e. omega arith))

  grid_thirteen :
      (day : List ℕ)
      → (grid_day_answer grid day).number ≡ 13
      → Refused (grid_open_answer ed y level) ⊎ (length (taken_days grid_day_answer day_grid (open_grid ed y level) days) ≡ period_days y)
  grid_thirteen day e = go (ℕ_discrete (grid_open_answer ed y level).number 0)
    where
      go :
          Dec ((grid_open_answer ed y level).number ≡ 0)
          → Refused (grid_open_answer ed y level) ⊎ (length (taken_days grid_day_answer day_grid (open_grid ed y level) days) ≡ period_days y)
      go (no r) = inl r
      go (yes z) = inr (thirteen_full (gridMachine ed y level) (grid_holds z) day e ∙ period_run y)

  grid_never : (buffer : List ℕ) → ((grid_close_answer grid (length buffer)).number ≡ 1 → ⊥) × ((grid_close_answer grid (length buffer)).number ≡ 2 → ⊥)
  grid_never buffer = go (ℕ_discrete (grid_open_answer ed y level).number 0) (dec_lt (length buffer) sheet_size)
    where
      not_so : {a : Said} {n k : ℕ} → a ≡ only n → (n ≡ k → ⊥) → a.number ≡ k → ⊥
      not_so e d f = d (sym (number_is e) ∙ f)

      shut_not :
          {n : ℕ}
          → grid_close_answer shut_grid (length buffer) ≡ only n
          → 13 ≤ n
          → Refused (grid_open_answer ed y level)
          → ((grid_close_answer grid (length buffer)).number ≡ 1 → ⊥) × ((grid_close_answer grid (length buffer)).number ≡ 2 → ⊥)
      shut_not e l r =
          let f = ap (λ (g : Grid). grid_close_answer g (length buffer)) (grid_shut r) ∙ e in
          (not_so f (λ k. omega arith), not_so f (λ k. omega arith))

      go :
          Dec ((grid_open_answer ed y level).number ≡ 0)
          → Dec (length buffer < sheet_size)
          → ((grid_close_answer grid (length buffer)).number ≡ 1 → ⊥) × ((grid_close_answer grid (length buffer)).number ≡ 2 → ⊥)
      go (no r) (yes h) = shut_not (fixed_state.grid_short buffer h) (omega arith) r
      go (no r) (no h) = shut_not (fixed_state.grid_close_law buffer (omega arith)) (omega arith) r
      go (yes z) h =
          let holds = grid_holds z in
          rw holds.is (grid_row z _ _ _ ((close_exactly (gridHolding ed y level _ _) buffer _).0 refl))

-- a customer's year
module _ (k : Basis) (days : List (List ℕ)) where
  abbrev customer : Customer
  customer = customer_after ours k days

  abbrev terms : Terms
  terms = terms_of k

  customer_shut : Refused (customer_open_answer k) → customer ≡ shut_customer
  customer_shut r =
      ap (λ (c : Customer). offered day_customer c days) (fixed_state.customer_open_law k r)
      ∙ offered_stays day_customer shut_customer
      (λ day. left_as_before.customer_day_law shut_customer day (λ z. omega (arith, number_is (fixed_state.customer_day_law day)))) days

  module _ (z : (customer_open_answer k).number ≡ 0) where
    opens : customer_open_answer k ≡ only 0
    opens = zero_alone_zero z (carried.customer_open_law k).listed

    customer_holds : Holds (customerMachine terms) (taken_readings customer_day_answer day_customer (open_customer k) days)
        (length (taken_days customer_day_answer day_customer (open_customer k) days)) customer
    customer_holds =
        holds_taken (customerMachine terms) (open_customer k) (sym (opened_state k (sym opens)) ∙ opens_holding terms) days

    judge_row : {ed : Edition} {n : ℕ} {f : Figures} → JudgeRow ed f terms.rates n → (n ≡ 2 → ⊥) × (n ≡ 6 → ⊥)
    judge_row (two a) = absurd (a (legal_opening k opens).legal_level)
    judge_row (six a b) = absurd (b (legal_opening k opens).legal_prices)
    judge_row (eight h a) = ((λ e. omega arith), (λ e. omega arith))
    judge_row (nine h a s) = ((λ e. omega arith), (λ e. omega arith))
    judge_row (ten h s m) = ((λ e. omega arith), (λ e. omega arith))
    judge_row (eleven h s m r) = ((λ e. omega arith), (λ e. omega arith))
    judge_row (zero h s m r) = ((λ e. omega arith), (λ e. omega arith))

    customer_row : (xs : List ℕ) (d : ℕ) {n : ℕ} → CustomerCloseRow (customerHolding terms xs d) n → (n ≡ 2 → ⊥) × (n ≡ 6 → ⊥)
    customer_row xs d (early f) = ((λ e. omega arith), (λ e. omega arith))
    customer_row xs d (judged f r) = judge_row r

  customer_sum : customer.figures.sum ≤ sum_most customer.seen
  unfolding figures_of
  customer_sum = go (ℕ_discrete (customer_open_answer k).number 0)
    where
      go : Dec ((customer_open_answer k).number ≡ 0) → customer.figures.sum ≤ sum_most customer.seen
      go (no r) = rw (customer_shut r) (omega arith)
      go (yes z) = let h = customer_holds z in rw h.is (legal_sum (basis_run k) _ _ h.read)

  customer_thirteen :
      (day : List ℕ)
      → (customer_day_answer customer day).number ≡ 13
      → Refused (customer_open_answer k) ⊎ (length (taken_days customer_day_answer day_customer (open_customer k) days) ≡ basis_days k)
  customer_thirteen day e = go (ℕ_discrete (customer_open_answer k).number 0)
    where
      go :
          Dec ((customer_open_answer k).number ≡ 0)
          → Refused (customer_open_answer k) ⊎ (length (taken_days customer_day_answer day_customer (open_customer k) days) ≡ basis_days k)
      go (no r) = inl r
      go (yes z) = inr (thirteen_full (customerMachine terms) (customer_holds z) day e ∙ year_run terms.rates.year)

  customer_never : ((customer_close_answer customer).number ≡ 2 → ⊥) × ((customer_close_answer customer).number ≡ 6 → ⊥)
  customer_never = go (ℕ_discrete (customer_open_answer k).number 0)
    where
      go : Dec ((customer_open_answer k).number ≡ 0) → ((customer_close_answer customer).number ≡ 2 → ⊥) × ((customer_close_answer customer).number ≡ 6 → ⊥)
      go (no r) =
          let f = number_is (ap customer_close_answer (customer_shut r) ∙ fixed_state.customer_close_law) in
          ((λ e. omega (arith, f)), (λ e. omega (arith, f)))
      go (yes z) =
          let h = customer_holds z in
          rw h.is (customer_row z _ _ ((customer_close_exactly (customerHolding terms _ _) _).0 refl))

pub handed_back : HandedBack ours
handed_back =
    record {
      grid_thirteen = grid_thirteen;
      grid_never = grid_never;
      customer_sum = customer_sum;
      customer_thirteen = customer_thirteen;
      customer_never = customer_never;
    }
