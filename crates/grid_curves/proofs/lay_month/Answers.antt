use mathlib.Core.Path.{◌≡◌, sym, ap, ◌∙◌}
use Prim.Native.Nat.{ℕ, ◌≤◌, ◌<◌, ◌+◌, ◌-◌}
use native.Mathlib.Omega.{arith}
use Rattle.periods.specs.Period.{period_days, period_season, period_left}
use Rattle.periods.proofs.Periods.{period_most, period_stays, period_room}
use Rattle.readings.proofs.Spans.{len_usual}
use Rattle.grid_curves.proofs.lay_month.Goals.{After-period_left}
use Rattle.grid_curves.proofs.lay_month.Goals as goal

-- the days that are left of the month lie in its season
stays : (y from k : ℕ) → from ≤ k → k ≤ from + period_left y (from + 1) → period_season y (k + 1) ≡ period_season y (from + 1)
stays y from k a b =
    let e : k + 1 ≡ from + 1 + (k - from) = omega arith in
    ap (period_season y) e ∙ period_stays y (from + 1) (k - from) (omega arith)

-- the days up to the month's end lie in the period, and in this season
record Month (e : After-period_left) : Type 0 where
  inside : e.args.from + 1 + e.period_left.result ≤ period_days e.args.sundays.year
  alike :
      (k : ℕ)
      → e.args.from ≤ k
      → k < e.args.from + 1 + e.period_left.result
      → period_season e.args.sundays.year (k + 1) ≡ e.period_season-season.result

month : (e : After-period_left) → Month e
month e =
    let left = e.period_left.ensures in
    record {
      inside = omega (arith, left, period_room e.args.sundays.year (e.args.from + 1) (omega (arith, e.requires.0)));
      alike =
          λ k a b.
          stays e.args.sundays.year e.args.from k a (omega (arith, left)) ∙ sym e.period_season-season.ensures;
    }

pub lay_fours-laid-requires : goal.lay_fours-laid-requires
lay_fours-laid-requires c =
    let m = month (goal.at.lay_fours-laid-requires c).After-period_left in
    let a = c.args in
    let none = c.stop_at.ensures in
    let usual = c.stop_at-usual.ensures in (
      usual.at_least,
      omega (arith, m.inside, none.at_most, usual.at_most),
      λ k l h. (
        m.alike k l (omega (arith, none.at_most, usual.at_most)),
        rw a.sundays.own at (len_usual a.sundays.change k (none.none k l (omega (arith, usual.at_most))) (usual.none k l h)),
      ),
      c.requires.1,
    )

pub loop-d-init : goal.loop-d-init
loop-d-init c =
    let h = c.lay_fours-laid.ensures in
    (h.from, omega (arith, h.upto, c.stop_at-usual.ensures.at_most, c.stop_at.ensures.at_most), h.are)

pub lay_held-requires : goal.lay_held-requires
lay_held-requires c =
    let m = month (goal.at.lay_held-requires c).After-period_left in
    let inv = c.loop-d.invariant in
    (omega (arith, m.inside), sym (m.alike c.loop-d.d inv.0 (omega arith)), inv.2)

pub returns : goal.returns
returns c =
    let m = month (goal.at.returns c).After-period_left in
    let all : c.loop-d.d ≡ c.args.from + 1 + c.period_left.result = omega arith in
    record { from = omega arith; upto = omega (arith, m.inside); are = rw all at c.loop-d.invariant.2 }

pub overflow_add-from : goal.overflow_add-from
overflow_add-from c = let m = period_most c.args.sundays.year in omega arith

pub overflow_add-end : goal.overflow_add-end
overflow_add-end c = let m = period_most c.args.sundays.year in omega arith

pub overflow_add-from-2 : goal.overflow_add-from-2
overflow_add-from-2 c = let m = period_most c.args.sundays.year in omega arith

pub overflow_add-end-2 : goal.overflow_add-end-2
overflow_add-end-2 c = let m = period_most c.args.sundays.year in let r = (month c).inside in omega arith

pub stop_at-requires : goal.stop_at-requires
stop_at-requires c = omega arith

pub stop_at-usual-requires : goal.stop_at-usual-requires
stop_at-usual-requires c = c.stop_at.ensures.at_least

pub loop-d-preserved : goal.loop-d-preserved
loop-d-preserved c = (omega arith, omega arith, c.lay_held.ensures)
