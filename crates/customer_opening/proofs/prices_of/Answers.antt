-- `customer_opening::prices_of` meets its contract, field by field: the bytes behind the holidays.
-- Assumes nothing.
use mathlib.Core.Path.{◌≡◌, ap, ◌∙◌}
use Prim.Native.Nat.{◌+◌, ◌*◌}
use native.Mathlib.Omega.{arith}
use Rattle.encoding.specs.Bytes.{four_at}
use Rattle.customer_head.specs.Header.{prices_at}
use Rattle.customer_opening.proofs.prices_of.Goals as goal

pub returns : goal.returns
returns c =
    let b = c.args.head.now in
    let at = c.holiday_count in
    let first : 63 + 2 * at.result ≡ prices_at b + 4 * 0 = omega (arith, at.ensures.0) in
    let second : 63 + 2 * at.result + 4 ≡ prices_at b + 4 * 1 = omega (arith, at.ensures.0) in
    let third : 63 + 2 * at.result + 8 ≡ prices_at b + 4 * 2 = omega (arith, at.ensures.0) in
    let fourth : 63 + 2 * at.result + 12 ≡ prices_at b + 4 * 3 = omega (arith, at.ensures.0) in
    λ i. record {
      few = record {
        capacity = (c.four_at.ensures ∙ ap (four_at b) first) i;
        energy = (c.four_at-2.ensures ∙ ap (four_at b) second) i;
      };
      many = record {
        capacity = (c.four_at-3.ensures ∙ ap (four_at b) third) i;
        energy = (c.four_at-4.ensures ∙ ap (four_at b) fourth) i;
      };
    }
