-- A lost reading is above both limits, so no row of an accepted series or day holds.
-- Assumes nothing.
use mathlib.Core.Path.{◌≡◌, refl}
use mathlib.Core.Logic.{◌⊎◌, ⊎_elim}
use mathlib.Core.List.{List}
use Prim.Native.Nat.{ℕ, ◌<◌}
use native.Mathlib.Omega.{arith}
use lib.ListN.{length, get_or}
use Rattle.ranges.specs.Limits.{Within}
use Rattle.answers.specs.declared.Edition.{Edition}
use Rattle.answers.specs.Ruling.{grid_most, customer_most, missing}
use Rattle.editions.specs.Editions.{edition_of}
use Rattle.periods.specs.Period.{period_days}
use Rattle.readings.specs.declared.Run.{Run}
use Rattle.readings.specs.declared.Run.TheVariants.{Year, Period}
use Rattle.readings.specs.Runs.{day_len, reading}
use Rattle.readings.specs.Rows.{NextRow}
use Rattle.readings.specs.Rows.NextRow.{thirteen, four, five, zero}
use Rattle.readings.proofs.Runs.{period_run, year_run}
use Rattle.readings.proofs.Legal.{reading_le}
use Rattle.readings.proofs.Days.{next_exactly}
use Rattle.grid.specs.Rows.{WindowsRow}
use Rattle.grid.specs.Rows.WindowsRow.{seven, zero}
use Rattle.grid.proofs.Exactly.{windows_exactly}
use Rattle.terms.specs.Basis.{Basis, basis_year}
use Rattle.terms.specs.Opening.{terms_of}
use Rattle.terms.specs.Rows.{CustomerOpenRow}
use Rattle.terms.specs.Rows.CustomerOpenRow.{sheet, three, six, zero}
use Rattle.customer_days.specs.declared.Customer.{Customer}
use Rattle.customer.specs.Rows.{SeriesRow, DecideRow}
use Rattle.customer_days.specs.Rows.{CustomerDayRow}
use Rattle.customer_days.specs.Rows.CustomerDayRow.{over, next}
use Rattle.customer.specs.Rows.SeriesRow.{four, five, judged}
use Rattle.customer.specs.Rows.DecideRow.{refused, series}
use Rattle.customer.specs.Demand.{basis_run, basis_days}
use Rattle.customer.proofs.Exactly.{decide_exactly}
use Rattle.customer_days.proofs.Exactly.{customer_day_exactly}
use Rattle.sheet.specs.Rows.{ReadRow}
use Rattle.sheet.specs.Rows.ReadRow.{malformed, one, two, full, zero}
use Rattle.demands.specs.Module.{ours}
use Rattle.demands.specs.Answers.{NeverLegal}

-- windows
module _
    (ed : Edition) (y level : ℕ) (xs buffer : List ℕ) (d p : ℕ)
    (l : d < period_days y) (h : p < day_len (Period y) d) (e : reading (Period y) xs d p ≡ missing)
  where
    not_done : WindowsRow ed y level xs (length buffer) 0 → ⊥
    not_done (zero c low m) = omega (arith, e, low d p (omega (arith, period_run y)) h)

    not_none : WindowsRow ed y level xs (length buffer) 7 → ⊥
    not_none (seven c z) = omega (arith, e, z, reading_le (Period y) xs (period_days y) d p l h)

-- a day
next_taken :
    (run : Run) (limit n : ℕ) (day : List ℕ) (p : ℕ)
    → limit < missing
    → p < length day
    → get_or day p 0 ≡ missing
    → {k : ℕ}
    → NextRow run limit n day k
    → k ≡ 0
    → ⊥
next_taken run limit n day p b l e (thirteen h) z = omega arith
next_taken run limit n day p b l e (four h m) z = omega arith
next_taken run limit n day p b l e (five c v) z = omega arith
next_taken run limit n day p b l e (zero c v) z = omega (arith, e, v p l)

customer_taken_law : (c : Customer) (day : List ℕ) (p : ℕ) → p < length day → get_or day p 0 ≡ missing → {k : ℕ} → CustomerDayRow c day k → k ≡ 0 → ⊥
customer_taken_law c day p l e (over o) z = omega arith
customer_taken_law c day p l e (next s r) z = next_taken (Year c.terms.rates.year) customer_most c.seen day p (omega arith) l e r z

-- a year: what the opening refuses is another number, and the series is not legal
abbrev Decided : ℕ → Type 0
Decided n = (n ≡ 0) ⊎ Within 8 11 n

refuted : {n : ℕ} → (n ≡ 0 → ⊥) → (Within 8 11 n → ⊥) → Decided n → ⊥
refuted a b = ⊎_elim a b

read_other : {ed : Edition} {b : List ℕ} {n : ℕ} → ReadRow ed b n → (n ≡ 0 → ⊥) → Decided n → ⊥
read_other (malformed f) z = refuted z (λ (w : Within 8 11 12). omega (arith, w.to))
read_other (one f y) z = refuted z (λ (w : Within 8 11 1). omega (arith, w.from))
read_other (two f y l) z = refuted z (λ (w : Within 8 11 2). omega (arith, w.from))
read_other (full f y l r) z = refuted z (λ (w : Within 8 11 12). omega (arith, w.to))
read_other (zero f y l r) z = absurd (z refl)

module _ (k : Basis) (xs : List ℕ) (d p : ℕ) (l : d < basis_days k) (h : p < day_len (basis_run k) d) (e : reading (basis_run k) xs d p ≡ missing) where
  open_other : {n : ℕ} → CustomerOpenRow k n → (n ≡ 0 → ⊥) → Decided n → ⊥
  open_other (sheet r z) y = read_other r y
  open_other (three r a) y = refuted y (λ (w : Within 8 11 3). omega (arith, w.from))
  open_other (six r a b) y = refuted y (λ (w : Within 8 11 6). omega (arith, w.from))
  open_other (zero b) y = absurd (y refl)

  series_other : {n : ℕ} → SeriesRow (terms_of k) xs n → Decided n → ⊥
  series_other (four a) = refuted (λ z. omega arith) (λ (w : Within 8 11 4). omega (arith, w.from))
  series_other (five a v) = refuted (λ z. omega arith) (λ (w : Within 8 11 5). omega (arith, w.from))
  series_other (judged s r) = absurd (omega (arith, e, s.legal d p (omega (arith, year_run (basis_year k))) h))

  decide_other : {n : ℕ} → DecideRow k xs n → Decided n → ⊥
  decide_other (refused r z) = open_other r z
  decide_other (series o r) = series_other r

pub never_legal : NeverLegal ours
never_legal =
    record {
      grid = λ es y level xs buffer d p l h e.
          let ed = edition_of es y in
          ⊎_elim (λ z. not_done ed y level xs buffer d p l h e ((windows_exactly ed y level xs buffer 0).0 z))
          (λ z. not_none ed y level xs buffer d p l h e ((windows_exactly ed y level xs buffer 7).0 z));
      grid_day_law = λ g day p l e z.
          next_taken (Period g.year) grid_most g.seen day p (omega arith) l e ((next_exactly (Period g.year) grid_most g.seen day 0).0 z) refl;
      customer = λ k xs d p l h e. decide_other k xs d p l h e ((decide_exactly k xs _).0 refl);
      customer_day_law = λ c day p l e z. customer_taken_law c day p l e ((customer_day_exactly c day 0).0 z) refl;
    }
