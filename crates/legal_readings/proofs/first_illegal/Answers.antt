use mathlib.Core.Path.{refl, ap}
use Prim.Native.Nat.{◌+◌}
use native.Mathlib.Omega.{arith}
use Rattle.ranges.proofs.Tests.{passed_none}
use Rattle.readings.specs.declared.Change.{Change}
use Rattle.readings.specs.Runs.{len_by, start_by}
use Rattle.readings.proofs.Spans.{lens_most, starts_most}
use Rattle.readings.proofs.Runs.{days_most, span_start, span_len}
use Rattle.readings.proofs.Legal.{legal_more, day_legal, own_search, illegal_none, illegal_found}
use Rattle.legal_readings.proofs.first_illegal.Goals as goal

pub search-init : goal.search-init
search-init c =
    record {
      some = omega arith;
      few = omega (arith, c.run_days-days.ensures, days_most c.args.run);
      no_day_law = refl;
      no_position = refl;
      passed = passed_none;
    }

pub loop-p-init : goal.loop-p-init
loop-p-init c =
    let change = c.change_of-change.result in
    let from = span_start _ _ c.span_by-span.ensures in
    let size = span_len _ _ c.span_by-span.ensures in
    record {
      outer = c.search.invariant;
      less = omega arith;
      from = from;
      low = omega (arith, from, starts_most change c.search.d);
      size = size;
      most = omega (arith, size, lens_most change c.search.d);
      upto = omega arith;
      legal = passed_none;
    }

pub loop-p-preserved : goal.loop-p-preserved
loop-p-preserved c =
    let a = c.args in
    let inv = c.loop-p.invariant in
    record {
      outer = inv.outer;
      less = inv.less;
      from = inv.from;
      low = inv.low;
      size = inv.size;
      most = inv.most;
      upto = omega arith;
      legal =
          legal_more c.change_of-change.result a.limit a.series.now c.search.d {i = c.span_by-span.result.start + c.loop-p.p}
          inv.legal
          (omega (arith, inv.from))
          (omega arith);
    }

pub search-preserved : goal.search-preserved
search-preserved c =
    let a = c.args in
    let outer = c.loop-p.invariant.outer in
    record {
      some = omega arith;
      few = outer.few;
      no_day_law = outer.no_day_law;
      no_position = outer.no_position;
      passed = day_legal c.change_of-change.result a.limit a.series.now c.search.d outer.passed c.loop-p.invariant.legal (omega arith);
    }

pub returns-after-search : goal.returns-after-search
returns-after-search c =
    let s = c.search.invariant in
    let days = c.run_days-days.ensures in
    rw (s.no_day_law, s.no_position) (illegal_none _ _ _ (own_search _ _ _ c.change_of-change.ensures s.passed) (omega arith))

pub returns-then-limit-reading_at : goal.returns-then-limit-reading_at
returns-then-limit-reading_at c =
    let own = c.change_of-change.ensures in
    let days = c.run_days-days.ensures in
    let inv = c.loop-p.invariant in
    illegal_found _ _ _ {i = c.span_by-span.result.start + c.loop-p.p} (own_search _ _ _ own inv.outer.passed) (rw own at inv.legal)
    (omega arith)
    (omega (arith, ap (λ (h : Change). len_by h c.search.d) own))
    (omega (arith, inv.from, ap (λ (h : Change). start_by h c.search.d) own))
    (omega arith)
