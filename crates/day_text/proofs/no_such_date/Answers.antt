-- `day_text::no_such_date` meets its contract: some line has such a date, or none has.
-- Assumes nothing.
use mathlib.Core.Path.{◌≡◌, refl}
use Prim.Native.Nat.{◌*◌}
use borrow.Author.Rules.{rules}
use borrow.Author.Tests.{tests}
use native.Mathlib.Omega.{arith}
use Rattle.std.proofs.lemmas.Iterator.{cases_from_any, YieldsList-from_range}
use Rattle.day_text.specs.Asked.{line_size, line_count, day_at}
use Rattle.day_text.proofs.Laws.{dates_searched}
use Rattle.day_text.proofs.no_such_date.Goals as goal

pub returns : goal.returns
returns c =
    let b = c.args.b.now in
    dates_searched b _
    (cases_from_any _ _ _ (λ k. day_at b (line_size * k) ≡ 0) (λ k. day_at b (line_size * k) ≡ 0 → ⊥) c.any.ensures.ran
    (YieldsList-from_range 0 (line_count b) (line_count b) refl (omega arith)) (λ x q k. search (rules, tests)) (λ x q k. search (rules, tests)))
