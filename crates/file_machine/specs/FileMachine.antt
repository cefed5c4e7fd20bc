-- The machine that reads a file with a series of its own, as a reader (room `fields`, specs/Machine): what it holds,
-- and its steps. Rules 10.4 and 10.5.
use Rattle.std.specs.Prelude.{◌≡◌, false, List, ℕ, ◌+◌, ◌≤◌, eqb, replicate}
use Rattle.answers.specs.Said.{Said}
use Rattle.editions.specs.declared.Editions.{Editions}
use Rattle.readings.specs.declared.Run.{Run}
use Rattle.readings.specs.Runs.{run_days}
use Rattle.fields.specs.declared.Stage.TheVariants.{Going}
use Rattle.fields.specs.Layout.{Layout, Fits}
use Rattle.fields.specs.Machine.{Reader}
use Rattle.file_machine.specs.declared.File.{File}

-- what is a file's own, where S is its series
pub record Kind (S : Type 0) : Type 0 where
  -- the header's layout, by the list of editions and the header's bytes
  pub layout : Editions → List ℕ → Layout
  -- the series before the first byte; and after so many fields, with these bytes in the header, by the one before
  pub fresh : Editions → S
  pub opened : Editions → S → List ℕ → ℕ → S
  -- how many days it has taken, the run of its days, and how many there are
  pub seen : S → ℕ
  pub run : S → Run
  pub days : S → ℕ
  -- what a day's readings are answered, and the series with the day taken
  pub said : S → List ℕ → Said
  pub added : S → List ℕ → S

-- what the machine needs of it: no field has more bytes than the longest day, the header's size bytes have room for all
-- fields, and a refused day leaves the series as it was
pub record KindLaws {S : Type 0} (k : Kind S) (size : ℕ) : Type 0 where
  pub fits : (es : Editions) (b : List ℕ) (f : ℕ) → Fits (k.layout es b) 400 size f
  pub few : (es : Editions) (b : List ℕ) → (k.layout es b).count ≤ 400
  pub all_days : (s : S) → run_days (k.run s) ≡ k.days s
  pub kept : (s : S) (day : List ℕ) → eqb (k.said s day).number 0 ≡ false → k.added s day ≡ s

module _ {S : Type 0} {size : ℕ} (k : Kind S) where
  -- the state in the header: es is the list of editions, f fields are taken, these are the header's bytes, and old is
  -- the series before
  abbrev pub file_head : Editions → S → ℕ → List ℕ → File S size
  file_head es old f head = record { editions = es; field = f; head = head; series = k.opened es old head f; stage = Going }

  -- the state before the first byte
  abbrev pub file_start : Editions → File S size
  file_start es = record { editions = es; field = 0; head = replicate size 0; series = k.fresh es; stage = Going }

  -- the series takes the days in; `seen` is how many are taken
  abbrev pub file_reader : Reader (File S size)
  file_reader =
      record {
        field = λ s. s.field;
        seen = λ s. k.seen s.series;
        head = λ s. s.head;
        stage = λ s. s.stage;
        layout = λ s. k.layout s.editions;
        run = λ s. k.run s.series;
        days = λ s. k.days s.series;
        ended = λ s stage. record { editions = s.editions; field = s.field; head = s.head; series = s.series; stage = stage };
        headed = λ s head. file_head s.editions s.series (s.field + 1) head;
        said = λ s day. k.said s.series day;
        added = λ s day. record { editions = s.editions; field = s.field; head = s.head; series = k.added s.series day; stage = Going };
      }
