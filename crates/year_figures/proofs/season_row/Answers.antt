-- `year_figures::season_row` meets its contract: a season is 1 to 4.
-- Assumes nothing.
use mathlib.Core.Path.{◌≡◌}
use Prim.Native.Nat.{◌+◌, ◌-◌, ◌*◌}
use native.Mathlib.Omega.{arith}
use Rattle.answers.specs.Ruling.{day_quarters}
use Rattle.dates.specs.Dates.{season_of}
use Rattle.dates.proofs.Seasons.{season_range}
use Rattle.sheet.specs.Windows.{quarter_place}
use Rattle.year_figures.proofs.Rows.{season_cut}
use Rattle.year_figures.proofs.season_row.Goals as goal

pub overflow_sub-start : goal.overflow_sub-start
overflow_sub-start c = let a = c.args in omega (arith, season_range a.year (a.d + 1))

pub slice_bounds-result-end : goal.slice_bounds-result-end
slice_bounds-result-end c = let a = c.args in omega (arith, season_range a.year (a.d + 1))

pub returns : goal.returns
returns c =
    let season = c.season in
    let a = c.args in
    let s = season_of a.year (a.d + 1) in
    let end = 96 * season.result in
    let range = season_range a.year (a.d + 1) in
    let start : end - 96 ≡ quarter_place s 0 = omega (arith, season.ensures) in
    let size : end - (end - 96) ≡ day_quarters = omega (arith, season.ensures) in
    season_cut a.windows.now s start size
