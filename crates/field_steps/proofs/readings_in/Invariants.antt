-- `field_steps::readings_in` meets its contract. The loop's invariant: the first i readings are filled in.
-- Assumes nothing.
use Prim.Native.Nat.{◌*◌}
use Rattle.encoding.specs.Bytes.{four_at}
use Rattle.readings.specs.Runs.{most_readings}
use Rattle.fields.specs.Series.{reading_bytes}
use Rattle.ranges.proofs.Tables.{Filled}
use Rattle.field_steps.proofs.readings_in.Given as goal

abbrev pub invariant-loop-i : goal.invariant-loop-i
invariant-loop-i l = Filled (λ k. four_at l.b (reading_bytes * k)) most_readings 0 l.i l.reading-items
