-- Each number has the figures of Rule 8.1 (specs/Refusals), and 5 names the first illegal reading.
-- Assumes nothing.
use mathlib.Core.Path.{◌≡◌, refl, sym, ap, ◌∙◌}
use mathlib.Core.Bool.{Bool, true, false, cond, not}
use mathlib.Core.List.{List, [], ◌∷◌}
use Prim.Native.Nat.{ℕ, ◌+◌}
use native.Mathlib.Decide.{ℕ_discrete}
use native.Mathlib.Omega.{arith}
use borrow.Author.Tests.{lt-ltb, eq-eqb, ne_eqb}
use lib.Dec.{leb, ltb, eqb}
use lib.ListN.{length, get_or}
use Rattle.editions.specs.Editions.{edition_of}
use Rattle.answers.specs.declared.Edition.{Edition}
use Rattle.answers.specs.declared.Place.{Place}
use Rattle.answers.specs.Ruling.{grid_most, customer_most, lacks_year, level_out}
use Rattle.answers.specs.Said.{Said, only, or_else}
use Rattle.dates.specs.Dates.{year_days}
use Rattle.periods.specs.Period.{period_days}
use Rattle.holidays.specs.Holidays.{bad_holidays}
use Rattle.day_kinds.specs.Kinds.{kind_code, kind_of}
use Rattle.calendar.specs.Answer.{day_out, calendar_answer}
use Rattle.readings.specs.declared.Run.{Run}
use Rattle.readings.specs.declared.Run.TheVariants.{Year, Period}
use Rattle.readings.specs.Runs.{run_days, day_len, run_readings}
use Rattle.readings.specs.Legal.{highest_of, first_above, bad_at, bad_day, first_illegal}
use Rattle.readings.specs.Illegal.{SomeIllegalIn, FirstIllegalIn}
use Rattle.readings.specs.Days.{series_answer, next_answer}
use Rattle.readings.specs.Rows.{NextRow}
use Rattle.readings.specs.Rows.NextRow.{thirteen, four, five, zero}
use Rattle.readings.proofs.Legal.{peak_illegal}
use Rattle.readings.proofs.Illegal.{some_illegal, first_illegal_law, some_illegal_in, first_illegal_in}
use Rattle.readings.proofs.Days.{next_exactly}
use Rattle.sheet.specs.declared.Sheet.{Sheet}
use Rattle.sheet.specs.Windows.{too_full}
use Rattle.encoding.specs.Bytes.{two_at, version_out}
use Rattle.sheet.specs.Bytes.{version_at, year_at, level_at, sheet_size, windows_in, unmarked}
use Rattle.sheet.specs.Answers.{read_answer, write_answer}
use Rattle.sheet.specs.Rows.{ReadRow}
use Rattle.sheet.specs.Rows.ReadRow.{malformed, one, two, full, zero}
use Rattle.sheet.proofs.Exactly.{read_zero}
use Rattle.sheet_read.specs.Editions.{sheet_edition}
use Rattle.grid.specs.Answers.{windows_answer, grid_open_answer, finish_answer, sheet_of}
use Rattle.grid_days.specs.Days.{grid_close_answer}
use Rattle.grid.specs.Rows.{WindowsRow}
use Rattle.grid.specs.Rows.WindowsRow.{five}
use Rattle.grid_days.specs.declared.Grid.{Grid}
use Rattle.grid.proofs.Exactly.{windows_exactly}
use Rattle.tariff.specs.declared.Rates.{Rates}
use Rattle.tariff.specs.declared.Figures.{Figures}
use Rattle.tariff.specs.Prices.{prices_out}
use Rattle.tariff.specs.Charges.{general, charge}
use Rattle.tariff.specs.Decision.{no_window, share_short, move_short, reduction_short, eligible_rules, charge_rules, judge_rules, eligible_answer, charge_answer, judge_answer}
use Rattle.terms.specs.Basis.{Basis, basis_year, basis_edition, basis_rates}
use Rattle.terms.specs.Opening.{terms_of, customer_open_answer}
use Rattle.terms.specs.Rows.{CustomerOpenRow}
use Rattle.terms.specs.Rows.CustomerOpenRow.{sheet, three, six, zero}
use Rattle.terms.proofs.Exactly.{open_zero}
use Rattle.customer_days.specs.declared.Customer.{Customer}
use Rattle.customer.specs.Answers.{whole_answer, decide_answer}
use Rattle.customer_days.specs.Days.{overfull, customer_day_answer, customer_close_answer}
use Rattle.customer.specs.Rows.{SeriesRow, DecideRow}
use Rattle.customer_days.specs.Rows.{CustomerDayRow}
use Rattle.customer_days.specs.Rows.CustomerDayRow.{over, next}
use Rattle.customer.specs.Rows.SeriesRow.{four, five, judged}
use Rattle.customer.specs.Rows.DecideRow.{refused, series}
use Rattle.customer.specs.Demand.{basis_run, basis_figures}
use Rattle.customer.proofs.Exactly.{decide_exactly}
use Rattle.customer_days.proofs.Exactly.{customer_day_exactly}
use Rattle.customer_days.proofs.Whole.{judge_five}
use Rattle.demands.specs.Module.{ours, Refused}
use Rattle.demands.specs.Refusals.{zero_alone, with_figures, year_column, Carries, CarriesPlace, FirstOfDay, Carried}
use Rattle.demands.proofs.Editions.{load_listed}

-- an answer, a choice between two, and a second answer behind the refusals of a first
leaf : {a : Said} {column : ℕ → List ℕ} → a.figures ≡ column a.number → Carries a column
leaf e = record { listed = e }

choice : (P : Said → Type 0) (t : Bool) {a b : Said} → P a → P b → P (cond t a b)
choice P true p q = p
choice P false p q = q

either : (t : Bool) {a b : Said} {column : ℕ → List ℕ} → Carries a column → Carries b column → Carries (cond t a b) column
either t {column = column} p q = choice (λ a. Carries a column) t p q

abbrev Refusing : (ℕ → List ℕ) → Said → Type 0
Refusing column a = Refused a → Carries a column

behind : (a : Said) {b : Said} {column : ℕ → List ℕ} → Refusing column a → Carries b column → Carries (or_else a b) column
behind a {b} {column} p q = go (ℕ_discrete a.number 0)
  where
    go : Dec (a.number ≡ 0) → Carries (or_else a b) column
    go (yes z) = rw (eq-eqb _ _ z) q
    go (no z) = rw (ne_eqb _ _ z) (p z)

-- any column that lists nothing for the refusals of reading a sheet and of opening
module _ (column : ℕ → List ℕ) (one : column 1 ≡ []) (two : column 2 ≡ []) (three : column 3 ≡ []) (six : column 6 ≡ []) (twelve : column 12 ≡ []) where
  reads : (ed : Edition) (b : List ℕ) → Refusing column (read_answer ed b)
  unfolding read_answer
  reads ed b =
      choice (Refusing column) (not (eqb (length b) sheet_size)) (λ r. leaf (sym twelve))
      (choice (Refusing column) (unmarked b) (λ r. leaf (sym twelve))
      (choice (Refusing column) (version_out b version_at) (λ r. leaf (sym twelve))
      (choice (Refusing column) (lacks_year ed (two_at b year_at)) (λ r. leaf (sym one))
      (choice (Refusing column) (level_out (get_or b level_at 0)) (λ r. leaf (sym two))
      (choice (Refusing column) (too_full ed (windows_in b)) (λ r. leaf (sym twelve))
      (λ r. absurd (r refl)))))))

  opens : (k : Basis) → Refusing column (customer_open_answer k)
  unfolding customer_open_answer
  opens k =
      choice (Refusing column) (eqb (read_answer (basis_edition k) k.sheet).number 0)
      (choice (Refusing column) (bad_holidays (basis_year k) k.holidays) (λ r. leaf (sym three))
      (choice (Refusing column) (prices_out k.prices) (λ r. leaf (sym six))
      (λ r. absurd (r refl))))
      (reads (basis_edition k) k.sheet)

-- an answer whose refusals and whose 0 carry nothing
zero_alone_all : (a : Said) → (Refused a → Carries a (zero_alone [])) → (a.number ≡ 0 → only 0 ≡ a) → Carries a (zero_alone [])
zero_alone_all a p z = go (ℕ_discrete a.number 0)
  where
    go : Dec (a.number ≡ 0) → Carries a (zero_alone [])
    go (yes e) = rw (← z e) (leaf refl)
    go (no n) = p n

-- any column that lists nothing but for 5
module _ (column : ℕ → List ℕ) (same : (n : ℕ) → eqb n 5 ≡ false → column n ≡ zero_alone [] n) where
  nothing : (n : ℕ) → eqb n 5 ≡ false → zero_alone [] n ≡ [] → Carries (only n) column
  nothing n e z = leaf (sym (same n e ∙ z))

  writes : (ed : Edition) (s : Sheet) (room : ℕ) → Carries (write_answer ed s room) column
  unfolding write_answer
  writes ed s room =
      either (ltb room sheet_size) (nothing 14 refl refl)
      (either (lacks_year ed s.year) (nothing 1 refl refl)
      (either (level_out s.level) (nothing 2 refl refl)
      (either (too_full ed s.windows) (nothing 12 refl refl)
      (nothing 0 refl refl))))

  grid_opens : (ed : Edition) (y level : ℕ) → Carries (grid_open_answer ed y level) column
  unfolding grid_open_answer
  grid_opens ed y level = either (lacks_year ed y) (nothing 1 refl refl) (either (level_out level) (nothing 2 refl refl) (nothing 0 refl refl))

  finishes : (ed : Edition) (y level : ℕ) (flat : List ℕ) (room : ℕ) → Carries (finish_answer ed y level flat room) column
  unfolding finish_answer
  finishes ed y level flat room = either (eqb (highest_of flat) 0) (nothing 7 refl refl) (writes ed (sheet_of ed y level flat) room)

  grid_closes : (g : Grid) (room : ℕ) → Carries (grid_close_answer g room) column
  unfolding grid_close_answer
  grid_closes g room =
      either (ltb room sheet_size) (nothing 14 refl refl)
      (either (not (eqb g.seen (period_days g.year))) (nothing 13 refl refl)
      (finishes g.edition g.year g.level g.curves room))

-- the place of a bad reading before a column
abbrev with_place : Place → (ℕ → List ℕ) → ℕ → List ℕ
with_place place others n = cond (eqb n 5) (place.day ∷ place.position ∷ []) (others n)

module _ (place : Place) (others : ℕ → List ℕ) where
  before : (n : ℕ) → eqb n 5 ≡ false → with_place place others n ≡ others n
  before n e = rw e

-- a day that is given alone
next_listed :
    (run : Run) (limit n : ℕ) (day : List ℕ)
    → Carries (next_answer run limit n day) (with_place (record { day = n + 1; position = first_above limit day }) (zero_alone []))
unfolding next_answer
next_listed run limit n day =
    either (leb (run_days run) n) (leaf refl)
    (either (not (eqb (length day) (day_len run n))) (leaf refl)
    (either (ltb (first_above limit day) (length day)) (leaf refl)
    (leaf refl)))

-- a whole series
series_listed :
    (run : Run) (limit : ℕ) (xs : List ℕ) (others : ℕ → List ℕ)
    → others 4 ≡ []
    → Refusing (with_place (first_illegal run limit xs) others) (series_answer run limit xs)
unfolding series_answer
series_listed run limit xs others none =
    let column = with_place (first_illegal run limit xs) others in
    choice (Refusing column) (not (eqb (length xs) (run_readings run))) (λ r. leaf (sym none))
    (choice (Refusing column) (ltb 0 (first_illegal run limit xs).day) (λ r. leaf refl)
    (λ r. absurd (r refl)))

windows_listed :
    (ed : Edition) (y level : ℕ) (xs : List ℕ) (room : ℕ)
    → Carries (windows_answer ed y level xs room) (with_place (first_illegal (Period y) grid_most xs) (zero_alone []))
unfolding windows_answer
windows_listed ed y level xs room =
    let place = first_illegal (Period y) grid_most xs in
    let column = with_place place (zero_alone []) in
    either (ltb room sheet_size) (leaf refl)
    (behind (grid_open_answer ed y level) (λ r. grid_opens column (before place (zero_alone [])) ed y level)
    (behind (series_answer (Period y) grid_most xs) (series_listed (Period y) grid_most xs (zero_alone []) refl)
    (finishes column (before place (zero_alone [])) ed y level _ room)))

-- the decision over figures, under any column that lists what the year's does, but for 5
module _ (ed : Edition) (f : Figures) (r : Rates) (column : ℕ → List ℕ) where
  module _ (done : List ℕ) (same : (n : ℕ) → eqb n 5 ≡ false → column n ≡ with_figures f (general ed f r) (zero_alone done) n) where
    eligible_refuses : Refusing column (eligible_rules ed f r)
    unfolding eligible_rules
    eligible_refuses =
        choice (Refusing column) (no_window f) (λ z. leaf (sym (same 8 refl)))
        (choice (Refusing column) (share_short ed f r) (λ z. leaf (sym (same 9 refl)))
        (choice (Refusing column) (move_short ed f) (λ z. leaf (sym (same 10 refl)))
        (λ z. absurd (z refl))))

    module _ (is : done ≡ charge ed f r ∷ general ed f r ∷ f.peak ∷ f.sum ∷ f.high ∷ f.day ∷ f.quarter ∷ []) where
      charge_listed : Carries (charge_rules ed f r) column
      unfolding charge_rules
      charge_listed =
          either (no_window f) (leaf (sym (same 8 refl)))
          (either (reduction_short ed f r) (leaf (sym (same 11 refl)))
          (leaf (sym (same 0 refl ∙ is))))

      judge_listed : Carries (judge_answer ed f r) column
      unfolding judge_answer judge_rules
      judge_listed =
          either (level_out r.level) (leaf (sym (same 2 refl)))
          (either (prices_out r.prices) (leaf (sym (same 6 refl)))
          (behind (eligible_rules ed f r) eligible_refuses charge_listed))

eligible_listed : (ed : Edition) (f : Figures) (r : Rates) → Carries (eligible_answer ed f r) (with_figures f (general ed f r) (zero_alone (1 ∷ [])))
unfolding eligible_answer eligible_rules
eligible_listed ed f r =
    either (level_out r.level) (leaf refl)
    (either (prices_out r.prices) (leaf refl)
    (either (no_window f) (leaf refl)
    (either (share_short ed f r) (leaf refl)
    (either (move_short ed f) (leaf refl)
    (leaf refl)))))

charged : (ed : Edition) (f : Figures) (r : Rates) → Carries (charge_answer ed f r) (year_column ed f r)
unfolding charge_answer
charged ed f r = either (prices_out r.prices) (leaf refl) (charge_listed ed f r (year_column ed f r) _ (λ n e. refl) refl)

judged_listed : (ed : Edition) (f : Figures) (r : Rates) → Carries (judge_answer ed f r) (year_column ed f r)
judged_listed ed f r = judge_listed ed f r (year_column ed f r) _ (λ n e. refl) refl

decides :
    (k : Basis) (xs : List ℕ)
    → Carries (decide_answer k xs) (with_place (first_illegal (basis_run k) customer_most xs)
    (year_column (basis_edition k) (basis_figures k xs) (basis_rates k)))
unfolding decide_answer whole_answer
decides k xs =
    let place = first_illegal (basis_run k) customer_most xs in
    let others = year_column (basis_edition k) (basis_figures k xs) (basis_rates k) in
    behind (customer_open_answer k) (opens (with_place place others) refl refl refl refl refl k)
    (behind (series_answer (basis_run k) customer_most xs) (series_listed (basis_run k) customer_most xs others refl)
    (judge_listed (basis_edition k) (basis_figures k xs) (basis_rates k) (with_place place others) _ (before place others) refl))

customer_days :
    (c : Customer) (day : List ℕ)
    → Carries (customer_day_answer c day) (with_place (record { day = c.seen + 1; position = first_above customer_most day }) (zero_alone []))
unfolding customer_day_answer
customer_days c day = either (overfull c) (leaf refl) (next_listed (Year c.terms.rates.year) customer_most c.seen day)

customer_closes : (c : Customer) → Carries (customer_close_answer c) (year_column c.terms.edition c.figures c.terms.rates)
unfolding customer_close_answer
customer_closes c =
    either (not (eqb c.seen (year_days c.terms.rates.year))) (leaf refl) (judged_listed c.terms.edition c.figures c.terms.rates)

calendar_listed : (ed : Edition) (y : ℕ) (hs : List ℕ) (d : ℕ) → Carries (calendar_answer ed y hs d) (zero_alone (kind_code (kind_of y hs d) ∷ []))
unfolding calendar_answer
calendar_listed ed y hs d =
    either (lacks_year ed y) (leaf refl) (either (bad_holidays y hs) (leaf refl) (either (day_out y d) (leaf refl) (leaf refl)))

-- the place that a column begins with is the first illegal reading's
record Found (place : Place) (First : ℕ → ℕ → Type 0) : Type 0 where
  on : ℕ
  at : ℕ
  is : place ≡ record { day = on + 1; position = at }
  first : First on at

placed :
    {a : Said} {place : Place} {First : ℕ → ℕ → Type 0} {column : ℕ → List ℕ}
    → Carries a (with_place place column)
    → (a.number ≡ 5 → Found place First)
    → CarriesPlace a First column
placed {place = place} {column = column} c found =
    record {
      listed = λ n. leaf (c.listed ∙ before place column _ (ne_eqb _ _ n));
      place = λ e. let f = found e in
          record {
            on = f.on;
            at = f.at;
            named = c.listed ∙ ap (with_place place column) e ∙ ap (λ (p : Place). p.day ∷ p.position ∷ []) f.is;
            first = f.first;
          };
    }

-- of a run's series
found_in : (run : Run) (limit : ℕ) (xs : List ℕ) → SomeIllegalIn run limit xs → Found (first_illegal run limit xs) (FirstIllegalIn run limit xs)
unfolding first_illegal
found_in run limit xs s =
    let v = (some_illegal_in run limit xs).1 s in
    record {
      on = bad_day run limit xs;
      at = bad_at run limit xs (bad_day run limit xs);
      is = simp (lt-ltb _ _ (peak_illegal run limit xs v));
      first = first_illegal_in run limit xs v;
    }

windows_place :
    (ed : Edition) (y level : ℕ) (xs buffer : List ℕ)
    → (windows_answer ed y level xs (length buffer)).number ≡ 5
    → Found (first_illegal (Period y) grid_most xs) (FirstIllegalIn (Period y) grid_most xs)
windows_place ed y level xs buffer e = go ((windows_exactly ed y level xs buffer 5).0 e)
  where
    go : WindowsRow ed y level xs (length buffer) 5 → Found (first_illegal (Period y) grid_most xs) (FirstIllegalIn (Period y) grid_most xs)
    go (five c v) = found_in (Period y) grid_most xs v

-- reading a sheet and opening are never answered 5
read_five : {ed : Edition} {b : List ℕ} {n : ℕ} → ReadRow ed b n → n ≡ 5 → ⊥
read_five (malformed f) e = omega arith
read_five (one f y) e = omega arith
read_five (two f y l) e = omega arith
read_five (full f y l w) e = omega arith
read_five (zero f y l w) e = omega arith

open_five : {k : Basis} {n : ℕ} → CustomerOpenRow k n → n ≡ 5 → ⊥
open_five (sheet r z) e = read_five r e
open_five (three r h) e = omega arith
open_five (six r h q) e = omega arith
open_five (zero l) e = omega arith

decide_place :
    (k : Basis) (xs : List ℕ)
    → (decide_answer k xs).number ≡ 5
    → Found (first_illegal (basis_run k) customer_most xs) (FirstIllegalIn (basis_run k) customer_most xs)
decide_place k xs e = go ((decide_exactly k xs 5).0 e) refl
  where
    from_series : {n : ℕ} → SeriesRow (terms_of k) xs n → n ≡ 5
        → Found (first_illegal (basis_run k) customer_most xs) (FirstIllegalIn (basis_run k) customer_most xs)
    from_series (four l) e = absurd (omega arith)
    from_series (five l v) e = found_in (basis_run k) customer_most xs v
    from_series (judged l r) e = absurd (judge_five (terms_of k) r e)

    go : {n : ℕ} → DecideRow k xs n → n ≡ 5 → Found (first_illegal (basis_run k) customer_most xs) (FirstIllegalIn (basis_run k) customer_most xs)
    go (refused r z) e = absurd (open_five r e)
    go (series o r) e = from_series r e

-- of a day that is given alone
found_today :
    (run : Run) (limit n : ℕ) (day : List ℕ) {k : ℕ}
    → NextRow run limit n day k
    → k ≡ 5
    → Found (record { day = n + 1; position = first_above limit day }) (FirstOfDay limit n day)
found_today run limit n day (thirteen h) e = absurd (omega arith)
found_today run limit n day (four h l) e = absurd (omega arith)
found_today run limit n day (five c v) e =
    let here = first_illegal_law limit day ((some_illegal limit day).1 v) in
    record { on = n; at = first_above limit day; is = refl; first = record { on_day = refl; first = here } }
found_today run limit n day (zero c v) e = absurd (omega arith)

customer_today :
    (c : Customer) (day : List ℕ)
    → (customer_day_answer c day).number ≡ 5
    → Found (record { day = c.seen + 1; position = first_above customer_most day }) (FirstOfDay customer_most c.seen day)
customer_today c day e = go ((customer_day_exactly c day 5).0 e) refl
  where
    go :
        {n : ℕ}
        → CustomerDayRow c day n
        → n ≡ 5
        → Found (record { day = c.seen + 1; position = first_above customer_most day }) (FirstOfDay customer_most c.seen day)
    go (over o) e = absurd (omega arith)
    go (next l r) e = found_today (Year c.terms.rates.year) customer_most c.seen day r e

pub carried : Carried ours
carried =
    record {
      load = load_listed;
      calendar = λ es y. calendar_listed (edition_of es y) y;
      read =
          λ es b. let ed = sheet_edition es b in
          zero_alone_all (read_answer ed b) (reads (zero_alone []) refl refl refl refl refl ed b) (read_zero ed b);
      write = λ es s. writes (zero_alone []) (λ n e. refl) (edition_of es s.year) s;
      windows =
          λ es y level xs buffer. let ed = edition_of es y in
          placed (windows_listed ed y level xs (length buffer)) (windows_place ed y level xs buffer);
      grid_open_law = λ es y. grid_opens (zero_alone []) (λ n e. refl) (edition_of es y) y;
      grid_day_law =
          λ g day. placed (next_listed (Period g.year) grid_most g.seen day)
          (λ e. found_today (Period g.year) grid_most g.seen day ((next_exactly (Period g.year) grid_most g.seen day 5).0 e) refl);
      grid_close_law = grid_closes (zero_alone []) (λ n e. refl);
      eligible = eligible_listed;
      charge = charged;
      judge = judged_listed;
      decide = λ k xs. placed (decides k xs) (decide_place k xs);
      customer_open_law = λ k. zero_alone_all (customer_open_answer k) (opens (zero_alone []) refl refl refl refl refl k) (open_zero k);
      customer_day_law = λ c day. placed (customer_days c day) (customer_today c day);
      customer_close_law = customer_closes;
    }

-- so an answer is its number with what the column lists for it
pub said_is : (a : Said) (column : ℕ → List ℕ) (n : ℕ) → Carries a column → a.number ≡ n → a ≡ record { number = n; figures = column n }
said_is a column n c e =
    let listed : a.figures ≡ column n = c.listed ∙ ap column e in
    λ i. record { number = e i; figures = listed i }
