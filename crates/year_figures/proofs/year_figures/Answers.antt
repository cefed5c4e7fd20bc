use mathlib.Core.Path.{◌≡◌, sym, ap, ◌∙◌}
use mathlib.Core.Bool.{Bool, false}
use Prim.Native.Nat.{ℕ, ◌+◌, ◌-◌, ◌≤◌, ◌<◌}
use native.Mathlib.Omega.{arith}
use lib.ListN.{length, get_or, take, drop, length-take, length-drop}
use Rattle.std.specs.Prelude.{Ok}
use Rattle.std.proofs.lemmas.Result.{err_from_is_err_and}
use Rattle.dates.specs.Dates.{year_days}
use Rattle.dates.proofs.Leaps.{leap_small}
use Rattle.dates.proofs.Seasons.{year_room}
use Rattle.readings.specs.declared.Run.TheVariants.{Year}
use Rattle.readings.specs.Runs.{start_by, run_readings}
use Rattle.readings.proofs.Runs.{year_run, run_all}
use Rattle.tariff.specs.declared.Figures.{Figures}
use Rattle.figures.proofs.Taken.{figures_none}
use Rattle.day_figures.specs.Day.{days_out, with_days}
use Rattle.day_figures.proofs.Fits.{room_is, days_refused, days_told}
use Rattle.day_figures.proofs.Days.{figures_most}
use Rattle.year_figures.specs.Counts.{counts_on}
use Rattle.year_figures.specs.Year.{figures_in}
use Rattle.year_figures.proofs.Rows.{month_taken}
use Rattle.year_figures.proofs.Years.{year_none, year_all}
use borrow.Author.Rules.{rules}
use Rattle.year_figures.proofs.year_figures.Goals.{After-month_left, After-take_days, At-loop-d, In-loop-d}
use Rattle.year_figures.proofs.year_figures.Goals as goal

-- a day of the loop is one of the year's
few :
    (i : In-loop-d)
    → (i.loop-d.d < year_days i.args.year) × (i.loop-d.d < 366)
few i =
    let days = i.year_days-days.ensures in
    (omega arith, omega (arith, days, leap_small i.args.year))

-- the month ends within the year
ends :
    (m : After-month_left)
    → m.loop-d.d + 1 + m.month_left.result ≤ year_days m.args.year
ends m =
    let y = m.args.year in
    omega (arith, m.month_left.ensures, year_room y (m.loop-d.d + 1) (omega (arith, m.year_days-days.ensures)))

short :
    (m : After-month_left)
    → m.loop-d.d + 1 + m.month_left.result ≤ 366
short m =
    omega (arith, ends m, leap_small m.args.year)

-- how many days are taken from day d on
abbrev month : After-month_left → ℕ
month m = let d = m.loop-d.d in d + 1 + m.month_left.result - d

-- their flags are as many
flags_long :
    (m : After-month_left)
    → length (take (month m) (drop m.loop-d.d m.args.carrying.now)) ≡ month m
flags_long m =
    let h = short m in
    simp (length-take, length-drop) (omega arith)

-- the series has the year's readings where it has those of all days
whole_year :
    (l : At-loop-d)
    → let a = l.args in
    start_by l.change_of-change.result l.year_days-days.result ≡ run_readings (Year a.year)
whole_year l =
    let a = l.args in
    (λ i. start_by (l.change_of-change.ensures i) ((l.year_days-days.ensures ∙ sym (year_run a.year)) i)) ∙ run_all (Year a.year)

-- so they are not answered 13
in_at :
    (t : After-take_days)
    → let a = t.args in
    days_out t.year_days-days.result t.loop-d.d
    (length (take (let d = t.loop-d.d in d + 1 + t.month_left.result - d) (drop t.loop-d.d a.carrying.now))) t.loop-d.figures.sum ≡ false
in_at t =
    let at = t.loop-d in
    let a = t.args in
    let days = t.year_days-days.ensures in
    let end : at.d + 1 + t.month_left.result ≤ year_days a.year =
    omega (arith, t.month_left.ensures, year_room a.year (at.d + 1) (omega (arith, days))) in
    let flags : length (take (at.d + 1 + t.month_left.result - at.d) (drop at.d a.carrying.now)) ≡ at.d + 1 + t.month_left.result - at.d =
    simp (length-take, length-drop) (omega (arith, end, leap_small a.year)) in
    let small = t.shared_slice_known-1.given in
    let sum = ap (λ (f : Figures). f.sum) at.invariant.1 in
    let counts : ℕ → ℕ → Bool = λ d. counts_on a.year (get_or a.carrying.now d false) a.windows.now d in
    let most = figures_most (Year a.year) counts a.series.now at.d (λ i. omega (arith, small i)) in
    room_is _ _ _ _ (record { left = omega (arith, flags, end, days); roomy = omega (arith, flags, end, leap_small a.year, sum, most) })

pub returns-in_err-figures : goal.returns-in_err-figures
returns-in_err-figures c =
    let w = goal.at.returns-in_err-figures c in
    let was = c.in_err-figures.was in
    let other = days_refused _ _ _ _ _ _ _ (in_at w.After-take_days) c.take_days.ensures (λ g h. absurd (cc)) in
    let p = err_from_is_err_and c.from_residual.result c.from_residual.ensures.1 in
    rw p.1 (year_none _ _ _ _ (λ e. other (e ∙ sym (whole_year w.At-loop-d))))

pub loop-d-preserved : goal.loop-d-preserved
loop-d-preserved c =
    let at = c.loop-d in
    let a = c.args in
    let new = days_told _ _ _ _ _ _ _ (in_at (goal.at.loop-d-preserved c).After-take_days) c.take_days.ensures c.in_ok-figures.was in
    let row = c.season_row-row.ensures in
    let all : at.d + month (goal.at.loop-d-preserved c).After-month_left ≡ at.d + 1 + c.month_left.result = omega arith in (
      ends (goal.at.loop-d-preserved c).After-month_left,
      new.1
          ∙ ap (with_days at.figures c.change_of-change.result at.d _ _ a.series.now) (flags_long (goal.at.loop-d-preserved c).After-month_left)
          ∙ month_taken a.year a.carrying.now a.windows.now at.d (month (goal.at.loop-d-preserved c).After-month_left) (omega (arith, c.month_left.ensures)) row
          a.series.now c.change_of-change.ensures at.invariant.1
          ∙ ap (figures_in a.year a.carrying.now a.windows.now a.series.now) all,
      λ h. new.0 ∙ whole_year (goal.at.loop-d-preserved c).At-loop-d,
    )

pub returns : goal.returns
returns c =
    let a = c.args in
    let at = c.loop-d in
    let all : at.d ≡ year_days a.year = omega (arith, c.year_days-days.ensures) in
    ap Ok (at.invariant.1 ∙ ap (figures_in a.year a.carrying.now a.windows.now a.series.now) all)
    ∙ year_all _ _ _ _ (at.invariant.2 (omega arith))

pub loop-d-init : goal.loop-d-init
loop-d-init c = (omega arith, figures_none _ _ _, λ h. absurd (omega arith))

pub overflow_add-next : goal.overflow_add-next
overflow_add-next c = omega (arith, few c)

pub overflow_add-d : goal.overflow_add-d
overflow_add-d c = omega (arith, few c)

pub overflow_add-next-in-loop-d : goal.overflow_add-next-in-loop-d
overflow_add-next-in-loop-d c = omega (arith, short c)

pub slice_bounds-flags-end : goal.slice_bounds-flags-end
slice_bounds-flags-end c = let h = short c in search rules

pub season_row-row-requires : goal.season_row-row-requires
season_row-row-requires c = let h = short (goal.at.season_row-row-requires c).After-month_left in omega arith
