-- What a refusal leaves and what it tells. That no input stops the module, that nothing is read behind a series and
-- that each call tests its input is what the contract of each call says: it has no `requires`, and its promise is an
-- equation for every input (docs/PROMISES.md). What is left is a property of the answers, for every input: what a
-- refusal leaves as it was, what a refused opening hands back, what is never answered, and which figures each number
-- has. Rules 8.1, 8.3, 8.4, 9.3, 9.5 and 12.1.
use Rattle.std.specs.Prelude.{◌≡◌, cond, ◌||◌, ◌⊎◌, List, [], ◌∷◌, ℕ, ◌+◌, ◌≤◌, ◌<◌, eqb, length}
use Rattle.answers.specs.Ruling.{grid_most, customer_most}
use Rattle.answers.specs.Said.{Said, only}
use Rattle.answers.specs.declared.Edition.{Edition}
use Rattle.editions.specs.declared.Editions.{Editions}
use Rattle.periods.specs.Period.{period_days}
use Rattle.day_kinds.specs.Kinds.{kind_code, kind_of}
use Rattle.readings.specs.declared.Run.TheVariants.{Period}
use Rattle.readings.specs.Illegal.{FirstIllegal, FirstIllegalIn}
use Rattle.readings.specs.Days.{taken_days}
use Rattle.sheet.specs.declared.Sheet.{Sheet}
use Rattle.sheet.specs.Bytes.{sheet_size}
use Rattle.sheet.specs.Answers.{blank}
use Rattle.grid_days.specs.declared.Grid.{Grid}
use Rattle.grid_days.specs.Days.{shut_grid}
use Rattle.tariff.specs.declared.Rates.{Rates}
use Rattle.tariff.specs.declared.Figures.{Figures}
use Rattle.tariff.specs.Charges.{general, charge}
use Rattle.terms.specs.Basis.{Basis, basis_edition, basis_rates}
use Rattle.customer_days.specs.declared.Customer.{Customer}
use Rattle.customer_days.specs.Days.{shut_customer, sum_most}
use Rattle.customer.specs.Demand.{basis_run, basis_days, basis_figures}
use Rattle.demands.specs.Module.{Module, grid_after, customer_after, Refused}

-- Rule 8.3: a refusal changes no list, no state and no byte of a lent buffer. (A closing has no state beside its
-- answer: it hands back none.)
pub record LeftAsBefore (m : Module) : Type 0 where
  pub load : (es : Editions) (ed : Edition) → Refused (m.load es ed) → m.loaded es ed ≡ es
  pub write : (es : Editions) (s : Sheet) (buffer : List ℕ) → Refused (m.write es s (length buffer)) → m.written es s buffer ≡ buffer
  pub windows :
      (es : Editions) (y level : ℕ) (xs buffer : List ℕ)
      → Refused (m.windows es y level xs (length buffer))
      → m.windows_laid es y level xs buffer ≡ buffer
  pub grid_day_law : (g : Grid) (day : List ℕ) → Refused (m.grid_day g day) → m.grid_next g day ≡ g
  pub grid_close_law : (g : Grid) (buffer : List ℕ) → Refused (m.grid_close g (length buffer)) → m.grid_laid g buffer ≡ buffer
  pub customer_day_law : (c : Customer) (day : List ℕ) → Refused (m.customer_day c day) → m.customer_next c day ≡ c

-- Rule 9.5: the state of a refused opening is always the same (`shut_grid`, `shut_customer`). To it every day is 13,
-- and so is closing, but a short buffer is 14.
pub record FixedState (m : Module) : Type 0 where
  -- the sheet beside a refused reading is always the same, too
  pub read : (es : Editions) (b : List ℕ) → Refused (m.read es b) → m.sheet_read es b ≡ blank
  pub grid_open_law : (es : Editions) (y level : ℕ) → Refused (m.grid_open es y level) → m.grid_opened es y level ≡ shut_grid
  pub grid_day_law : (day : List ℕ) → m.grid_day shut_grid day ≡ only 13
  pub grid_close_law : (buffer : List ℕ) → sheet_size ≤ length buffer → m.grid_close shut_grid (length buffer) ≡ only 13
  pub grid_short : (buffer : List ℕ) → length buffer < sheet_size → m.grid_close shut_grid (length buffer) ≡ only 14
  pub customer_open_law : (k : Basis) → Refused (m.customer_open k) → m.customer_opened k ≡ shut_customer
  pub customer_day_law : (day : List ℕ) → m.customer_day shut_customer day ≡ only 13
  pub customer_close_law : m.customer_close shut_customer ≡ only 13

-- Some rows can hold only for a state that no call handed back (Rule 9.6). On a state that an opening, accepted or not,
-- and days after it handed back, a day is answered 13 only where the opening was refused or all days are in: there the
-- sum is never above `sum_most` (customer_days, specs/Days), which would be 13, too. And closing never answers 1 or 2
-- for the grid, 2 or 6 for a customer.
pub record HandedBack (m : Module) : Type 0 where
  pub grid_thirteen :
      (es : Editions) (y level : ℕ) (days : List (List ℕ)) (day : List ℕ)
      → (m.grid_day (grid_after m es y level days) day).number ≡ 13
      → Refused (m.grid_open es y level) ⊎ (length (taken_days m.grid_day m.grid_next (m.grid_opened es y level) days) ≡ period_days y)
  pub grid_never :
      (es : Editions) (y level : ℕ) (days : List (List ℕ)) (buffer : List ℕ)
      → let n = (m.grid_close (grid_after m es y level days) (length buffer)).number in
      (n ≡ 1 → ⊥) × (n ≡ 2 → ⊥)
  pub customer_sum : (k : Basis) (days : List (List ℕ)) → (customer_after m k days).figures.sum ≤ sum_most (customer_after m k days).seen
  pub customer_thirteen :
      (k : Basis) (days : List (List ℕ)) (day : List ℕ)
      → (m.customer_day (customer_after m k days) day).number ≡ 13
      → Refused (m.customer_open k) ⊎ (length (taken_days m.customer_day m.customer_next (m.customer_opened k) days) ≡ basis_days k)
  pub customer_never :
      (k : Basis) (days : List (List ℕ))
      → let n = (m.customer_close (customer_after m k days)).number in
      (n ≡ 2 → ⊥) × (n ≡ 6 → ⊥)

-- The figures of Rule 8.1, as a list for each number n, which is called a column here. 0 has what the call is asked
-- for, and most refusals have none.
abbrev pub zero_alone : List ℕ → ℕ → List ℕ
zero_alone done n = cond (eqb n 0) done []

-- a year with the figures f and the general charge g: 8 has g, M and S; 9, 10 and 11 have H with its day, from 1, and
-- its quarter, from 0, behind these; other numbers have what `others` lists
abbrev pub with_figures : Figures → ℕ → (ℕ → List ℕ) → ℕ → List ℕ
with_figures f g others n =
    cond (eqb n 8) (g ∷ f.peak ∷ f.sum ∷ [])
    (cond (eqb n 9 || (eqb n 10 || eqb n 11)) (g ∷ f.peak ∷ f.sum ∷ f.high ∷ f.day ∷ f.quarter ∷ [])
    (others n))

-- the decision over figures: 0 has c in front of these
abbrev pub year_column : Edition → Figures → Rates → ℕ → List ℕ
year_column ed f r n =
    with_figures f (general ed f r) (zero_alone (charge ed f r ∷ general ed f r ∷ f.peak ∷ f.sum ∷ f.high ∷ f.day ∷ f.quarter ∷ [])) n

-- the figures of the answer a are those that a column lists for its number
pub record Carries (a : Said) (column : ℕ → List ℕ) : Type 0 where
  pub listed : a.figures ≡ column a.number

-- 5 names a reading by its day, from 1, and its position in the day, from 0, and it is the first illegal one (Rule
-- 8.4): `First d q` says that of position q of day d, both from 0. Every other number has what a column lists.
pub record NamesFirst (a : Said) (First : ℕ → ℕ → Type 0) : Type 0 where
  pub on : ℕ
  pub at : ℕ
  pub named : a.figures ≡ (on + 1) ∷ at ∷ []
  pub first : First on at

pub record CarriesPlace (a : Said) (First : ℕ → ℕ → Type 0) (column : ℕ → List ℕ) : Type 0 where
  pub listed : (a.number ≡ 5 → ⊥) → Carries a column
  pub place : a.number ≡ 5 → NamesFirst a First

-- in a day that is given alone where n days are taken: it is day n, from 0
pub record FirstOfDay (limit n : ℕ) (day : List ℕ) (d q : ℕ) : Type 0 where
  pub on_day : d ≡ n
  pub first : FirstIllegal limit day q

-- Rule 8.1, of each call: its number has the figures that the table lists for it
pub record Carried (m : Module) : Type 0 where
  pub load : (es : Editions) (ed : Edition) → Carries (m.load es ed) (zero_alone [])
  pub calendar : (es : Editions) (y : ℕ) (hs : List ℕ) (d : ℕ) → Carries (m.calendar es y hs d) (zero_alone (kind_code (kind_of y hs d) ∷ []))
  pub read : (es : Editions) (b : List ℕ) → Carries (m.read es b) (zero_alone [])
  pub write : (es : Editions) (s : Sheet) (room : ℕ) → Carries (m.write es s room) (zero_alone [])
  pub windows :
      (es : Editions) (y level : ℕ) (xs buffer : List ℕ)
      → CarriesPlace (m.windows es y level xs (length buffer)) (FirstIllegalIn (Period y) grid_most xs) (zero_alone [])
  pub grid_open_law : (es : Editions) (y level : ℕ) → Carries (m.grid_open es y level) (zero_alone [])
  pub grid_day_law : (g : Grid) (day : List ℕ) → CarriesPlace (m.grid_day g day) (FirstOfDay grid_most g.seen day) (zero_alone [])
  pub grid_close_law : (g : Grid) (room : ℕ) → Carries (m.grid_close g room) (zero_alone [])
  pub eligible : (ed : Edition) (f : Figures) (r : Rates) → Carries (m.eligible ed f r) (with_figures f (general ed f r) (zero_alone (1 ∷ [])))
  pub charge : (ed : Edition) (f : Figures) (r : Rates) → Carries (m.charge ed f r) (year_column ed f r)
  pub judge : (ed : Edition) (f : Figures) (r : Rates) → Carries (m.judge ed f r) (year_column ed f r)
  pub decide :
      (k : Basis) (xs : List ℕ)
      → CarriesPlace (m.decide k xs) (FirstIllegalIn (basis_run k) customer_most xs) (year_column (basis_edition k) (basis_figures k xs) (basis_rates k))
  pub customer_open_law : (k : Basis) → Carries (m.customer_open k) (zero_alone [])
  pub customer_day_law : (c : Customer) (day : List ℕ) → CarriesPlace (m.customer_day c day) (FirstOfDay customer_most c.seen day) (zero_alone [])
  pub customer_close_law : (c : Customer) → Carries (m.customer_close c) (year_column c.terms.edition c.figures c.terms.rates)
