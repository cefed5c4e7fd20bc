-- Modules that would get away with less, and that the demands shut out: one that refuses everything, does nothing, goes
-- by one edition alone, always gives one sheet or one charge, makes up S, takes in only the first day or all but the
-- last, or takes a day twice. What is wrong is said of any module; `ShutOut` says that no module that meets the demands
-- is so. Rule 13.2.
use Rattle.std.specs.Prelude.{◌≡◌, Bool, cond, List, ℕ, ◌+◌, ◌-◌, ◌*◌, eqb, length, get_or}
use Rattle.ranges.specs.Ranges.{sum_over}
use Rattle.answers.specs.declared.Edition.{Edition}
use Rattle.answers.specs.Edition.{today}
use Rattle.answers.specs.Ruling.{HasYear, grid_most, customer_most}
use Rattle.answers.specs.Said.{Said, only}
use Rattle.editions.specs.declared.Editions.{Editions}
use Rattle.editions.specs.Editions.{todays, edition_of}
use Rattle.readings.specs.declared.Run.{Run}
use Rattle.readings.specs.declared.Run.TheVariants.{Period}
use Rattle.readings.specs.Runs.{run_days}
use Rattle.readings.specs.Illegal.{LegalSeries}
use Rattle.readings.specs.Part.{run_part}
use Rattle.readings.specs.Days.{offered, days_of}
use Rattle.sheet.specs.declared.Sheet.{Sheet}
use Rattle.sheet.specs.Bytes.{sheet_in}
use Rattle.grid_days.specs.declared.Grid.{Grid}
use Rattle.tariff.specs.declared.Rates.{Rates}
use Rattle.tariff.specs.declared.Figures.{Figures}
use Rattle.tariff.specs.Answers.{payable}
use Rattle.figures.specs.Figures.{sum_of}
use Rattle.terms.specs.Basis.{Basis, basis_year, basis_edition}
use Rattle.customer_days.specs.declared.Customer.{Customer}
use Rattle.customer.specs.Demand.{basis_run, basis_days, LegalYear}
use Rattle.demands.specs.Module.{Module, Refused}
use Rattle.demands.specs.Editions.{under}
use Rattle.demands.specs.Answers.{sheet_shown}
use Rattle.demands.specs.Demands.{Demands}

-- one of the calls refuses every input, by whatever numbers: of loading, or under today's list and today's edition
pub data RefusesAlways (m : Module) : Type 0 where
  load : ((es : Editions) (ed : Edition) → Refused (m.load es ed)) → RefusesAlways m
  calendar : ((y : ℕ) (hs : List ℕ) (d : ℕ) → Refused (m.calendar todays y hs d)) → RefusesAlways m
  read : ((b : List ℕ) → Refused (m.read todays b)) → RefusesAlways m
  write : ((s : Sheet) (buffer : List ℕ) → Refused (m.write todays s (length buffer))) → RefusesAlways m
  windows : ((y level : ℕ) (xs buffer : List ℕ) → Refused (m.windows todays y level xs (length buffer))) → RefusesAlways m
  grid_open_law : ((y level : ℕ) → Refused (m.grid_open todays y level)) → RefusesAlways m
  grid_day_law : ((g : Grid) (day : List ℕ) → Refused (m.grid_day g day)) → RefusesAlways m
  grid_close_law : ((g : Grid) (buffer : List ℕ) → Refused (m.grid_close g (length buffer))) → RefusesAlways m
  eligible : ((f : Figures) (r : Rates) → Refused (m.eligible today f r)) → RefusesAlways m
  charge : ((f : Figures) (r : Rates) → Refused (m.charge today f r)) → RefusesAlways m
  judge : ((f : Figures) (r : Rates) → Refused (m.judge today f r)) → RefusesAlways m
  decide : ((k : Basis) (xs : List ℕ) → k.editions ≡ todays → Refused (m.decide k xs)) → RefusesAlways m
  customer_open_law : ((k : Basis) → k.editions ≡ todays → Refused (m.customer_open k)) → RefusesAlways m
  customer_day_law : ((c : Customer) (day : List ℕ) → Refused (m.customer_day c day)) → RefusesAlways m
  customer_close_law : ((c : Customer) → Refused (m.customer_close c)) → RefusesAlways m

-- a call leaves the list, the buffer or the state as it was, or an opening under today's list hands back the same state
-- whatever it opens
pub data DoesNothing (m : Module) : Type 0 where
  load : ((es : Editions) (ed : Edition) → m.loaded es ed ≡ es) → DoesNothing m
  write : ((s : Sheet) (buffer : List ℕ) → m.written todays s buffer ≡ buffer) → DoesNothing m
  windows : ((y level : ℕ) (xs buffer : List ℕ) → m.windows_laid todays y level xs buffer ≡ buffer) → DoesNothing m
  grid_open_law : (g : Grid) → ((y level : ℕ) → m.grid_opened todays y level ≡ g) → DoesNothing m
  grid_day_law : ((g : Grid) (day : List ℕ) → m.grid_next g day ≡ g) → DoesNothing m
  grid_close_law : ((g : Grid) (buffer : List ℕ) → m.grid_laid g buffer ≡ buffer) → DoesNothing m
  customer_open_law : (c : Customer) → ((k : Basis) → k.editions ≡ todays → m.customer_opened k ≡ c) → DoesNothing m
  customer_day_law : ((c : Customer) (day : List ℕ) → m.customer_next c day ≡ c) → DoesNothing m

-- a call asks a list only whether it has the year, and goes by one edition then: lists that both have it are answered
-- alike, whatever their numbers are. A call that needs no more of a list does not even ask: all lists are answered
-- alike. A call over figures goes by one edition, whatever it is given.
pub record BothHave (es fs : Editions) (y : ℕ) : Type 0 where
  pub one : HasYear (edition_of es y) y
  pub other : HasYear (edition_of fs y) y

pub data IgnoresEditions (m : Module) : Type 0 where
  calendar : ((es fs : Editions) (y : ℕ) (hs : List ℕ) (d : ℕ) → m.calendar es y hs d ≡ m.calendar fs y hs d) → IgnoresEditions m
  read : ((es fs : Editions) (b : List ℕ) → BothHave es fs (sheet_in b).year → m.read es b ≡ m.read fs b) → IgnoresEditions m
  write :
      ((es fs : Editions) (s : Sheet) (buffer : List ℕ) → BothHave es fs s.year → m.write es s (length buffer) ≡ m.write fs s (length buffer))
      → IgnoresEditions m
  windows :
      ((es fs : Editions) (y level : ℕ) (xs buffer : List ℕ) → BothHave es fs y → m.windows_laid es y level xs buffer ≡ m.windows_laid fs y level xs buffer)
      → IgnoresEditions m
  grid_open_law : ((es fs : Editions) (y level : ℕ) → m.grid_open es y level ≡ m.grid_open fs y level) → IgnoresEditions m
  eligible : ((ed fd : Edition) (f : Figures) (r : Rates) → m.eligible ed f r ≡ m.eligible fd f r) → IgnoresEditions m
  charge : ((ed fd : Edition) (f : Figures) (r : Rates) → m.charge ed f r ≡ m.charge fd f r) → IgnoresEditions m
  judge : ((ed fd : Edition) (f : Figures) (r : Rates) → m.judge ed f r ≡ m.judge fd f r) → IgnoresEditions m
  -- by whatever limit the sheet is read
  decide :
      ((fs : Editions) (k : Basis) (xs : List ℕ)
      → BothHave k.editions fs (basis_year k)
      → (basis_edition k).limit ≡ (edition_of fs (basis_year k)).limit
      → m.decide k xs ≡ m.decide (under fs k) xs)
      → IgnoresEditions m
  customer_open_law :
      ((fs : Editions) (k : Basis) → BothHave k.editions fs (basis_year k) → m.customer_open k ≡ m.customer_open (under fs k))
      → IgnoresEditions m

-- one sheet: the windows that a reader of the bytes has under today's list are the same whatever the series is
pub record OneSheet (m : Module) : Type 0 where
  pub windows : List Bool
  pub fixed :
      (y level : ℕ) (xs buffer : List ℕ)
      → (m.windows todays y level xs (length buffer)).number ≡ 0
      → (sheet_shown m todays y level xs buffer).windows ≡ windows

-- one charge: whoever is accepted under today's list pays the same
pub record OneCharge (m : Module) : Type 0 where
  pub charge : ℕ
  pub fixed : (k : Basis) (xs : List ℕ) → k.editions ≡ todays → (m.decide k xs).number ≡ 0 → payable (m.decide k xs) ≡ charge

-- S is made up: for some legal year the S of the answer is not the sum of the year's readings. It is figure 3, from 0,
-- of an answer 0 (behind c, g and M), and figure 2 of another (behind g and M).
abbrev pub sum_said : Said → ℕ
sum_said a = get_or a.figures (cond (eqb a.number 0) 3 2) 0

pub record MadeUpSum (m : Module) : Type 0 where
  pub basis : Basis
  pub series : List ℕ
  pub legal : LegalYear basis series
  pub made_up : sum_said (m.decide basis series) ≡ sum_of (basis_run basis) series (basis_days basis) → ⊥

-- Wrong ways to take in days, seen from outside: complete legal series are offered day by day. `step` is the state
-- after a day.
pub data WrongDays {S : Type 0} (run : Run) (limit : ℕ) (step : S → List ℕ → S) (start : S) : Type 0 where
  -- only the first day matters: series with the same first day, day 1, lead to the same state
  first_day :
      ((xs ys : List ℕ)
      → LegalSeries run limit xs
      → LegalSeries run limit ys
      → run_part run xs 1 ≡ run_part run ys 1
      → offered step start (days_of run xs (run_days run)) ≡ offered step start (days_of run ys (run_days run)))
      → WrongDays run limit step start
  -- the last day is lost
  last_day :
      ((xs : List ℕ)
      → LegalSeries run limit xs
      → offered step start (days_of run xs (run_days run)) ≡ offered step start (days_of run xs (run_days run - 1)))
      → WrongDays run limit step start
  -- every day keeps the state, whatever it is answered
  kept : ((s : S) (day : List ℕ) → step s day ≡ s) → WrongDays run limit step start

-- a customer's day that is taken twice: its readings count twice towards S
abbrev pub DayTwice : Module → Type 0
DayTwice m =
    (c : Customer) (day : List ℕ)
    → m.customer_day c day ≡ only 0
    → (m.customer_next c day).figures.sum ≡ c.figures.sum + 2 * sum_over (λ p. get_or day p 0) (length day)

pub record ShutOut : Type 0 where
  pub refusing_always : (m : Module) → Demands m → RefusesAlways m → ⊥
  pub doing_nothing : (m : Module) → Demands m → DoesNothing m → ⊥
  pub ignoring_editions : (m : Module) → Demands m → IgnoresEditions m → ⊥
  pub one_sheet : (m : Module) → Demands m → OneSheet m → ⊥
  pub one_charge : (m : Module) → Demands m → OneCharge m → ⊥
  pub made_up_sum : (m : Module) → Demands m → MadeUpSum m → ⊥
  -- whatever the year and the level, or the basis
  pub wrong_grid_days :
      (m : Module) (es : Editions) (y level : ℕ)
      → Demands m
      → m.grid_open es y level ≡ only 0
      → WrongDays (Period y) grid_most m.grid_next (m.grid_opened es y level)
      → ⊥
  pub wrong_customer_days :
      (m : Module) (k : Basis)
      → Demands m
      → m.customer_open k ≡ only 0
      → WrongDays (basis_run k) customer_most m.customer_next (m.customer_opened k)
      → ⊥
  pub day_twice : (m : Module) → Demands m → DayTwice m → ⊥
