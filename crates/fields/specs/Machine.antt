-- The machine that a program drives, for either file: what it wants next, and what it does with the bytes b that came
-- (fewer than it wanted where the file has ended). It goes by the fields of the layout, over the header's bytes that it
-- holds, and then by the days. Rules 10.4 and 10.5.
use Rattle.std.specs.Prelude.{cond, List, ℕ, ltb, eqb, length, take}
use Rattle.std.proofs.Math.Seq.{paste}
use Rattle.answers.specs.Said.{Said}
use Rattle.readings.specs.declared.Run.{Run}
use Rattle.fields.specs.declared.Stage.{Stage}
use Rattle.fields.specs.declared.Stage.TheVariants.{Refused, Complete}
use Rattle.fields.specs.Layout.{Layout, start_of}
use Rattle.fields.specs.Series.{readings_of, day_size}
use Rattle.fields.specs.Stages.{going, stage_of}

-- what a machine with the states S holds, and its steps
pub record Reader (S : Type 0) : Type 0 where
  -- how many fields and how many days are taken (so they are the places, from 0, of the next ones), the header's bytes,
  -- and where the machine stands
  pub field : S → ℕ
  pub seen : S → ℕ
  pub head : S → List ℕ
  pub stage : S → Stage
  -- its file: the header's layout, which goes by the header's bytes and by what the machine keeps beside them; the run
  -- of the days, and how many there are
  pub layout : S → List ℕ → Layout
  pub run : S → Run
  pub days : S → ℕ
  -- the state that has ended at a stage, and the state with one field more, whose header bytes are these
  pub ended : S → Stage → S
  pub headed : S → List ℕ → S
  -- what a day's readings are answered, and the state with the day taken
  pub said : S → List ℕ → Said
  pub added : S → List ℕ → S

module _ {S : Type 0} (r : Reader S) where
  -- the layout that the header's bytes give, how many bytes the next field has, and how many the next day
  abbrev pub layout_in : S → Layout
  layout_in s = r.layout s (r.head s)

  abbrev pub field_size : S → ℕ
  field_size s = (layout_in s).width (r.field s)

  abbrev pub next_size : S → ℕ
  next_size s = day_size (r.run s) (r.seen s)

  -- how many bytes it wants: those of a field, then of a day, then one byte, which should not be there; none once it
  -- has ended
  unfoldable pub wants : S → ℕ
  wants s =
      cond (going (r.stage s))
      (cond (ltb (r.field s) (layout_in s).count) (field_size s)
      (cond (ltb (r.seen s) (r.days s)) (next_size s)
      1))
      0

  -- a field: cut off, it is 12; otherwise it is laid into the header's bytes and tested there, and kept if it passes
  abbrev pub head_with : S → List ℕ → List ℕ
  head_with s b = paste (r.head s) (start_of (layout_in s) (r.field s)) b (field_size s)

  abbrev pub number_with : S → List ℕ → ℕ
  number_with s b = (r.layout s (head_with s b)).refusal (r.field s)

  unfoldable pub field_fed : S → List ℕ → S
  field_fed s b =
      cond (ltb (length b) (field_size s)) (r.ended s (Refused 12))
      (cond (eqb (number_with s b) 0) (r.headed s (head_with s b))
      (r.ended s (Refused (number_with s b))))

  -- a day: cut off, it is 4; otherwise its readings are given to the series or the year that takes days, which may
  -- refuse them
  abbrev pub day_in : S → List ℕ → List ℕ
  day_in s b = readings_of (take (next_size s) b)

  unfoldable pub day_given : S → List ℕ → S
  day_given s day = cond (eqb (r.said s day).number 0) (r.added s day) (r.ended s (stage_of (r.said s day)))

  unfoldable pub day_fed : S → List ℕ → S
  day_fed s b = cond (ltb (length b) (next_size s)) (r.ended s (Refused 4)) (day_given s (day_in s b))

  -- the end: a byte behind the last day is 4
  unfoldable pub end_fed : S → List ℕ → S
  end_fed s b = r.ended s (cond (ltb 0 (length b)) (Refused 4) Complete)

  -- what it does with the bytes that came: they are a field, then a day, then the end; a machine that has ended stays
  -- as it is
  unfoldable pub fed : S → List ℕ → S
  fed s b =
      cond (going (r.stage s))
      (cond (ltb (r.field s) (layout_in s).count) (field_fed s b)
      (cond (ltb (r.seen s) (r.days s)) (day_fed s b)
      (end_fed s b)))
      s
