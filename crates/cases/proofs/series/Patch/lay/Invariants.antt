-- `cases::series::Patch::lay` is safe: the made-up numbers stay small, and a place stays far below what it is held in.
-- Assumes nothing.
use Rattle.std.proofs.Common.{◌+◌, ◌*◌, ◌<◌, ◌≤◌}
use Rattle.cases.proofs.series.Patch.lay.Given as goal

abbrev pub invariant-loop : goal.invariant-loop
invariant-loop l = record {
  made_up : l.x < 65537;
  near : l.at ≤ 65536 + 65536 * l.counter;
}
