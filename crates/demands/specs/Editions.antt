-- The list of editions: which record is picked, what loading makes of a list, and that calls go by the list only
-- through the record that is picked for their year. Rules 2.1, 2.7, 8.1, 8.3 and 9.6.
use Rattle.std.specs.Prelude.{◌≡◌, ◌↔◌, List, ℕ, ◌+◌, ◌<◌, length}
use Rattle.answers.specs.declared.Edition.{Edition}
use Rattle.answers.specs.Edition.{today, no_edition}
use Rattle.answers.specs.Ruling.{HasYear, LegalEdition}
use Rattle.editions.specs.declared.Editions.{Editions}
use Rattle.editions.specs.Editions.{editions_most, todays, loaded_in, record_at, edition_of, HasRecord}
use Rattle.editions.specs.Loading.{Loads}
use Rattle.readings.specs.declared.Run.{Run}
use Rattle.readings.specs.Part.{run_year}
use Rattle.sheet.specs.declared.Sheet.{Sheet}
use Rattle.sheet_read.specs.Editions.{sheet_edition}
use Rattle.terms.specs.Basis.{Basis, basis, basis_year, basis_edition}
use Rattle.demands.specs.Module.{Module}

-- the edition of a year
pub record Picking : Type 0 where
  -- it holds for the year exactly where some record of the list does; where none does, it is the one of no year
  pub has : (es : Editions) (y : ℕ) → HasYear (edition_of es y) y ↔ HasRecord es y
  pub none : (es : Editions) (y : ℕ) → (HasRecord es y → ⊥) → edition_of es y ≡ no_edition
  -- it is the first such record, in a list that no loading made, too
  pub first :
      (es : Editions) (y k : ℕ)
      → k < loaded_in es
      → HasYear (record_at es k) y
      → ((j : ℕ) → j < k → HasYear (record_at es j) y → ⊥)
      → edition_of es y ≡ record_at es k
  -- a list that loadings made has legal records, at most one of them for a year, and that one is picked
  pub legal : (es : Editions) → Loads es → (k : ℕ) → k < loaded_in es → LegalEdition (record_at es k)
  pub one :
      (es : Editions)
      → Loads es
      → (y j k : ℕ)
      → j < loaded_in es
      → k < loaded_in es
      → HasYear (record_at es j) y
      → HasYear (record_at es k) y
      → j ≡ k
  pub is : (es : Editions) → Loads es → (y k : ℕ) → k < loaded_in es → HasYear (record_at es k) y → edition_of es y ≡ record_at es k
  -- today's list is one, and has today's edition for its years and none for others
  pub todays_loads : Loads todays
  pub todays_has : (y : ℕ) → HasYear today y → edition_of todays y ≡ today
  pub todays_lacks : (y : ℕ) → (HasYear today y → ⊥) → edition_of todays y ≡ no_edition

-- a record that is loaded stands behind the others, which stay (a list that a call handed back has eight places)
pub record Loadings (m : Module) : Type 0 where
  pub longer : (es : Editions) (ed : Edition) → (m.load es ed).number ≡ 0 → (m.loaded es ed).count ≡ es.count + 1
  pub last : (es : Editions) (ed : Edition) → length es.records ≡ editions_most → (m.load es ed).number ≡ 0 → record_at (m.loaded es ed) es.count ≡ ed
  pub others :
      (es : Editions) (ed : Edition) (k : ℕ)
      → (m.load es ed).number ≡ 0
      → k < es.count
      → record_at (m.loaded es ed) k ≡ record_at es k

-- the basis with another list
abbrev pub under : Editions → Basis → Basis
under fs k = basis fs k.sheet k.holidays k.prices k.option

-- two lists with the same record for the year, or both without one, are answered alike
pub record SameUnder (m : Module) : Type 0 where
  pub calendar : (es fs : Editions) (y : ℕ) (hs : List ℕ) (d : ℕ) → edition_of es y ≡ edition_of fs y → m.calendar es y hs d ≡ m.calendar fs y hs d
  pub part :
      (es fs : Editions) (run : Run) (xs : List ℕ) (day : ℕ)
      → edition_of es (run_year run) ≡ edition_of fs (run_year run)
      → m.part es run xs day ≡ m.part fs run xs day
  pub read : (es fs : Editions) (b : List ℕ) → sheet_edition es b ≡ sheet_edition fs b → m.read es b ≡ m.read fs b
  pub sheet_read_law : (es fs : Editions) (b : List ℕ) → sheet_edition es b ≡ sheet_edition fs b → m.sheet_read es b ≡ m.sheet_read fs b
  pub write : (es fs : Editions) (s : Sheet) (room : ℕ) → edition_of es s.year ≡ edition_of fs s.year → m.write es s room ≡ m.write fs s room
  pub written :
      (es fs : Editions) (s : Sheet) (buffer : List ℕ)
      → edition_of es s.year ≡ edition_of fs s.year
      → m.written es s buffer ≡ m.written fs s buffer
  pub windows :
      (es fs : Editions) (y level : ℕ) (xs buffer : List ℕ)
      → edition_of es y ≡ edition_of fs y
      → m.windows es y level xs (length buffer) ≡ m.windows fs y level xs (length buffer)
  pub windows_laid_law :
      (es fs : Editions) (y level : ℕ) (xs buffer : List ℕ)
      → edition_of es y ≡ edition_of fs y
      → m.windows_laid es y level xs buffer ≡ m.windows_laid fs y level xs buffer
  pub grid_open_law : (es fs : Editions) (y level : ℕ) → edition_of es y ≡ edition_of fs y → m.grid_open es y level ≡ m.grid_open fs y level
  pub grid_opened_law : (es fs : Editions) (y level : ℕ) → edition_of es y ≡ edition_of fs y → m.grid_opened es y level ≡ m.grid_opened fs y level
  pub decide :
      (fs : Editions) (k : Basis) (xs : List ℕ)
      → basis_edition k ≡ edition_of fs (basis_year k)
      → m.decide k xs ≡ m.decide (under fs k) xs
  pub customer_open_law : (fs : Editions) (k : Basis) → basis_edition k ≡ edition_of fs (basis_year k) → m.customer_open k ≡ m.customer_open (under fs k)
  pub customer_opened_law : (fs : Editions) (k : Basis) → basis_edition k ≡ edition_of fs (basis_year k) → m.customer_opened k ≡ m.customer_opened (under fs k)
