-- What the machine that reads a file is after a day: its series hands back itself where it refuses the day.
-- Assumes nothing.
use mathlib.Core.Path.{◌≡◌, refl}
use mathlib.Core.List.{List}
use Prim.Native.Nat.{ℕ}
use Rattle.fields.specs.declared.Stage.{Stage}
use Rattle.fields.specs.Stages.{stage_of, day_stage}
use Rattle.fields.specs.Machine.{day_given}
use Rattle.fields.proofs.Machine.{given_staged}
use Rattle.file_machine.specs.declared.File.{File}
use Rattle.file_machine.specs.FileMachine.{Kind, KindLaws, file_reader}

module _ {S : Type 0} {size : ℕ} (k : Kind S) (laws : KindLaws k size) (s : File S size) (day : List ℕ) where
  abbrev with : S → Stage → File S size
  with series stage = record { editions = s.editions; field = s.field; head = s.head; series = series; stage = stage }

  pub day_given_law : with (k.added s.series day) (day_stage (k.said s.series day)) ≡ day_given (file_reader k) s day
  day_given_law =
      given_staged (file_reader k) s day (with (k.added s.series day)) (λ z. refl)
      (λ z i. with (laws.kept s.series day z i) (stage_of (k.said s.series day)))
