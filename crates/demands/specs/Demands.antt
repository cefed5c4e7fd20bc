-- The three demands, of any module: what it is held to, one record for each part. Rules 12.1 to 12.3.
use Rattle.std.specs.Prelude.{◌≡◌, List, ℕ, length}
use Rattle.answers.specs.declared.Edition.{Edition}
use Rattle.editions.specs.declared.Editions.{Editions}
use Rattle.readings.specs.declared.Run.{Run}
use Rattle.readings.specs.Plain.{PlainDays, EachQuarter}
use Rattle.sheet.specs.declared.Sheet.{Sheet}
use Rattle.grid_days.specs.declared.Grid.{Grid}
use Rattle.tariff.specs.declared.Rates.{Rates}
use Rattle.tariff.specs.declared.Figures.{Figures}
use Rattle.terms.specs.Basis.{Basis}
use Rattle.customer_days.specs.declared.Customer.{Customer}
use Rattle.demands.specs.Module.{Module}
use Rattle.demands.specs.Refusals.{LeftAsBefore, FixedState, HandedBack, Carried}
use Rattle.demands.specs.Editions.{Picking, Loadings, SameUnder}
use Rattle.demands.specs.Calendar.{Calendar}
use Rattle.demands.specs.Numbers.{Numbers, Dates}
use Rattle.demands.specs.Forms.{TodayForms}
use Rattle.demands.specs.Charges.{ToTheCent}
use Rattle.demands.specs.Answers.{ExactlyWhen, NeverLegal, HandedOut, ToTheQuarterHour, Eligibility, DaysAsWhole}
use Rattle.demands.specs.Sheets.{Sheets}
use Rattle.demands.specs.Fair.{Fairness}

pub record Demands (m : Module) : Type 0 where
  -- demand 1: every input is answered, and a refusal changes nothing (Rule 12.1)
  pub left_as_before : LeftAsBefore m
  pub fixed_state : FixedState m
  pub handed_back : HandedBack m
  pub carried : Carried m
  -- demand 2: what is answered is what the rules say (Rule 12.2)
  pub numbers : Numbers
  pub today_forms : TodayForms
  pub picking : Picking
  pub loadings : Loadings m
  pub same_under : SameUnder m
  pub dates : Dates
  pub plain_days : (run : Run) → PlainDays run
  pub each_quarter : EachQuarter
  pub exactly_when : ExactlyWhen m
  pub never_legal : NeverLegal m
  pub handed_out : HandedOut m
  pub calendar : Calendar m
  pub to_the_quarter_hour : ToTheQuarterHour m
  pub to_the_cent : ToTheCent
  pub eligibility : Eligibility m
  pub days_as_whole : DaysAsWhole m
  pub sheets : Sheets m
  -- demand 3: fairness between two years (Rule 12.3)
  pub fairness : Fairness m

-- The demands leave no answer open (Rule 13.1): two modules that meet them answer every input alike, number and
-- figures, also on a state that no call handed back, and hand out the same days.
pub record AnswersAlike (m n : Module) : Type 0 where
  pub load : (es : Editions) (ed : Edition) → m.load es ed ≡ n.load es ed
  pub calendar : (es : Editions) (y : ℕ) (hs : List ℕ) (d : ℕ) → m.calendar es y hs d ≡ n.calendar es y hs d
  pub read : (es : Editions) (b : List ℕ) → m.read es b ≡ n.read es b
  pub write : (es : Editions) (s : Sheet) (room : ℕ) → m.write es s room ≡ n.write es s room
  pub part : (es : Editions) (run : Run) (xs : List ℕ) (day : ℕ) → m.part es run xs day ≡ n.part es run xs day
  pub windows : (es : Editions) (y level : ℕ) (xs buffer : List ℕ) → m.windows es y level xs (length buffer) ≡ n.windows es y level xs (length buffer)
  pub grid_open_law : (es : Editions) (y level : ℕ) → m.grid_open es y level ≡ n.grid_open es y level
  pub grid_day_law : (g : Grid) (day : List ℕ) → m.grid_day g day ≡ n.grid_day g day
  pub grid_close_law : (g : Grid) (buffer : List ℕ) → m.grid_close g (length buffer) ≡ n.grid_close g (length buffer)
  pub eligible : (ed : Edition) (f : Figures) (r : Rates) → m.eligible ed f r ≡ n.eligible ed f r
  pub charge : (ed : Edition) (f : Figures) (r : Rates) → m.charge ed f r ≡ n.charge ed f r
  pub judge : (ed : Edition) (f : Figures) (r : Rates) → m.judge ed f r ≡ n.judge ed f r
  pub decide : (k : Basis) (xs : List ℕ) → m.decide k xs ≡ n.decide k xs
  pub customer_open_law : (k : Basis) → m.customer_open k ≡ n.customer_open k
  pub customer_day_law : (c : Customer) (day : List ℕ) → m.customer_day c day ≡ n.customer_day c day
  pub customer_close_law : (c : Customer) → m.customer_close c ≡ n.customer_close c

abbrev pub NothingElse : Type 0
NothingElse = (m n : Module) → Demands m → Demands n → AnswersAlike m n
