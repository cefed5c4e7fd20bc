-- `grid::windows_by` meets its contract, a law for each return; the peak tells whether a reading is illegal, so the
-- series is read once.
-- Assumes nothing.
use mathlib.Core.Path.{◌≡◌, refl, sym, ◌∙◌}
use native.Mathlib.Omega.{arith}
use lib.ListN.{length}
use Rattle.std.proofs.lemmas.Result.{err_from_is_err_and}
use Rattle.readings.specs.declared.Run.TheVariants.{Period}
use Rattle.readings.specs.Runs.{run_readings}
use Rattle.readings.proofs.Days.{series_length}
use Rattle.grid.proofs.Answered.{refuses, whole_refused, whole_short, whole_open, whole_series, whole_finish, curves_bad, curves_legal}
use Rattle.grid.proofs.windows_by.Goals.{Else-series-run_readings}
use Rattle.grid.proofs.windows_by.Goals as goal

-- what is known once the length has passed its test
length_at :
    (e : Else-series-run_readings)
    → let a = e.args in
    length a.series.now ≡ run_readings (Period a.year)
length_at e = e.if-series-run_readings.false ∙ e.run_readings.ensures

pub returns-then-out-lt-SHEET_SIZE : goal.returns-then-out-lt-SHEET_SIZE
returns-then-out-lt-SHEET_SIZE c =
    let a = c.args in
    whole_refused a.edition a.year a.level a.series.now a.out.now _ refl
    (whole_short a.edition a.year a.level a.series.now a.out.now (omega arith))

pub returns-in_err-opens : goal.returns-in_err-opens
returns-in_err-opens c =
    let a = c.args in
    let p = err_from_is_err_and c.from_residual.result c.from_residual.ensures.1 in
    rw (p.1, p.2)
    (whole_refused a.edition a.year a.level a.series.now a.out.now _ (refuses c.in_err-opens.field-0.0)
    (whole_open a.edition a.year a.level a.series.now a.out.now (omega arith) _ (refuses c.in_err-opens.field-0.0) c.in_err-opens.ensures))

pub returns-then-series-run_readings : goal.returns-then-series-run_readings
returns-then-series-run_readings c =
    let a = c.args in
    whole_refused a.edition a.year a.level a.series.now a.out.now _ refl
    (whole_series a.edition a.year a.level a.series.now a.out.now (omega arith) c.in_ok-opens.ensures _ refl
    (series_length _ _ _ (λ e. c.if-series-run_readings.true (e ∙ sym c.run_readings.ensures))))

pub returns-then-peak-gt-GRID_MOST : goal.returns-then-peak-gt-GRID_MOST
returns-then-peak-gt-GRID_MOST c =
    let a = c.args in
    whole_refused a.edition a.year a.level a.series.now a.out.now _ refl
    (whole_series a.edition a.year a.level a.series.now a.out.now (omega arith) c.in_ok-opens.ensures _ refl
    (curves_bad a.year a.series.now (length_at (goal.at.returns-then-peak-gt-GRID_MOST c).Else-series-run_readings) c.collect-curves.ensures (omega arith)
    c.first_illegal-place.ensures))

pub returns : goal.returns
returns c =
    let a = c.args in
    let flat = c.collect-curves.ensures in
    whole_finish a.edition a.year a.level a.series.now a.out.now (omega arith) c.in_ok-opens.ensures
    (curves_legal a.year a.series.now (length_at (goal.at.returns c).Else-series-run_readings) flat (omega arith))
    flat
    (c.finish_by.ensures _ c.by_season-seasons.ensures c.highest-peak.ensures)
