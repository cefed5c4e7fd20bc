use mathlib.Core.Path.{◌≡◌, sym, ap, ◌∙◌}
use Prim.Native.Nat.{◌+◌}
use native.Mathlib.Omega.{arith}
use Rattle.editions.specs.declared.Editions.{Editions}
use Rattle.editions.specs.Editions.{edition_of}
use Rattle.periods.specs.Period.{period_days}
use Rattle.readings.specs.declared.Run.TheVariants.{Period}
use Rattle.readings.specs.Days.{offered, days_of}
use Rattle.readings.specs.Part.{run_part}
use Rattle.grid_days.specs.declared.Grid.{Grid}
use Rattle.grid_days.specs.Days.{open_grid, day_grid}
use Rattle.bench_grid.specs.Days.{grid_after_days}
use Rattle.readings.proofs.Given.{days_none, days_more}
use Rattle.bench_grid.proofs.all_grid_days.Goals as goal

pub loop-d-init : goal.loop-d-init
loop-d-init c = (c.period_days-d-end.ensures, omega arith, sym (days_none day_grid _ _ _))

pub loop-d-preserved : goal.loop-d-preserved
loop-d-preserved c =
    let at = c.loop-d in
    let a = c.args in (
      at.invariant.0,
      omega arith,
      c.day.ensures.1
          ∙ ap (day_grid at.state) c.run_part-day.ensures
          ∙ ap (λ (s : Grid). day_grid s (run_part (Period a.year) a.series.now (at.d + 1))) at.invariant.2
          ∙ sym (days_more day_grid (Period a.year) _ a.series.now at.d),
    )

pub returns : goal.returns
returns c =
    let at = c.loop-d in
    let a = c.args in
    let all : at.d ≡ period_days a.year = omega arith in
    at.invariant.2
    ∙ ap (λ (s : Grid). offered day_grid s (days_of (Period a.year) a.series.now at.d))
    (c.«open».ensures.1
    ∙ ap (λ (es : Editions). open_grid (edition_of es a.year) a.year a.level) c.todays.ensures)
    ∙ ap (grid_after_days a.year a.level a.series.now) all
