-- `file_machine::File::take_day` meets its contract, a case for each return.
-- Assumes nothing.
use mathlib.Core.Path.{◌≡◌, sym, ◌∙◌}
use Prim.Native.Nat.{◌≤◌}
use native.Mathlib.Omega.{arith}
use lib.Seq.{length-take-le}
use lib.ListN.{length, take}
use Rattle.readings.specs.Runs.{day_len}
use Rattle.readings.proofs.Runs.{len_most}
use Rattle.fields.proofs.Machine.{day_cut, day_read}
use Rattle.file_machine.specs.FileMachine.{file_reader}
use Rattle.file_machine.proofs.Days.{day_given_law}
use borrow.Author.Rules.{rules}
use Rattle.file_machine.proofs.File.take_day.Goals.{After-day_len-n}
use Rattle.file_machine.proofs.File.take_day.Goals as goal

-- a day has at most a hundred readings
len_few : (g : _) (e : After-day_len-n g) → e.day_len-n.result ≤ 100
len_few g e = omega (arith, e.day_len-n.ensures, len_most e.run.result e.seen.result)

len_is : (g : _) (e : After-day_len-n g) → e.day_len-n.result ≡ day_len (g.S.Series.kind.run e.args.self.series) (g.S.Series.kind.seen e.args.self.series)
len_is g e = e.day_len-n.ensures ∙ (λ i. day_len (e.run.ensures i) (e.seen.ensures i))

pub slice_bounds-readings-end : goal.slice_bounds-readings-end
slice_bounds-readings-end g c =
    let h : length c.readings_in-readings.result ≡ 100 = search rules in
    omega (arith, len_few g (goal.at.slice_bounds-readings-end g c).After-day_len-n)

pub slice_bounds-day-end : goal.slice_bounds-day-end
slice_bounds-day-end g c =
    let h : length c.readings_in-readings.result ≡ 100 = search rules in
    sym (length-take-le _ _ (omega (arith, len_few g (goal.at.slice_bounds-day-end g c).After-day_len-n)))

pub returns-then-b-n : goal.returns-then-b-n
returns-then-b-n g c = c.ended.ensures ∙ day_cut (file_reader g.S.Series.kind) _ _ (omega (arith, len_is g (goal.at.returns-then-b-n g c).After-day_len-n))

pub returns : goal.returns
returns g c =
    let m = g.S.Series in
    let s = c.args.self in
    let day = take c.day_len-n.result c.readings_in-readings.result in
    (λ i. record { editions = s.editions; field = s.field; head = s.head; series = (c.day-stage.ensures i).1; stage = (c.day-stage.ensures i).0 })
    ∙ day_given_law m.kind m.laws s day
    ∙ day_read (file_reader m.kind) s c.args.b.now (len_is g (goal.at.returns g c).After-day_len-n) c.readings_in-readings.ensures (omega arith)

pub overflow_mul-n : goal.overflow_mul-n
overflow_mul-n g c = omega (arith, len_few g c)
