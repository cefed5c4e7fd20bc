-- `readings::quarter_in` meets its contract, a law for each return.
-- Assumes nothing.
use mathlib.Core.Path.{sym}
use native.Mathlib.Omega.{arith}
use Rattle.ranges.proofs.Bools.{within}
use Rattle.readings.proofs.Quarters.{short_stays, short_moves, long_early, long_late, quarter_plain}
use Rattle.readings.proofs.quarter_in.Goals as goal

-- the positions that move are below 92
pub overflow_add-result : goal.overflow_add-result
overflow_add-result c = omega (arith, ((within 8 91 c.args.position).0 c.if-position.false).to)

pub returns-then-position : goal.returns-then-position
returns-then-position c = sym (short_stays c.args.n c.args.position (omega arith) c.if-position.true)

pub returns-else-position : goal.returns-else-position
returns-else-position c = sym (short_moves c.args.n c.args.position (omega arith) c.if-position.false)

pub returns-then-position-lt12 : goal.returns-then-position-lt12
returns-then-position-lt12 c = sym (long_early _ _ c.if-n-eq-MOST_READINGS.true c.if-position-lt12.true)

pub returns-else-position-lt12 : goal.returns-else-position-lt12
returns-else-position-lt12 c = sym (long_late _ _ c.if-n-eq-MOST_READINGS.true (omega arith))

pub returns : goal.returns
returns c = sym (quarter_plain _ _ c.if-n-eq-LEAST_READINGS.false c.if-n-eq-MOST_READINGS.false)
