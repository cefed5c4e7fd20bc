-- `window_lines::Season::run_end` meets its contract, a law for each case.
-- Assumes nothing.
use mathlib.Core.Path.{◌≡◌}
use mathlib.Core.Bool.{true, false}
use borrow.Author.Rules.{rules}
use borrow.Author.Tests.{tests}
use lib.ListN.{length}
use Rattle.std.specs.List.{AllWithin, HoldsAt}
use Rattle.std.specs.Option.{MatchOption}
use Prim.Native.Nat.{◌<◌}
use Rattle.std.proofs.lemmas.Iterator.{IsFirst-from_position, YieldsList-from_slice}
use Rattle.window_lines.proofs.Runs.{rest, rest_stops, rest_through}
use Rattle.window_lines.proofs.Season.run_end.Goals.{After-position}
use Rattle.window_lines.proofs.Season.run_end.Goals as goal

-- what the search tells
told :
    (e : After-position)
    → let a = e.args in
    let left = rest a.self.now.set.now a.q in
    MatchOption e.position.result (AllWithin (λ x. x ≡ true) left 0 (length left))
    (λ j. (j < length left) × HoldsAt (λ x. x ≡ false) left j × AllWithin (λ x. x ≡ true) left 0 j)
told e =
    IsFirst-from_position _ _ _ (λ x. x ≡ false) (λ x. x ≡ true) e.position.ensures.ran (YieldsList-from_slice _ e.iter.ensures.rest)
    (λ x q k. search (rules, tests)) (λ x q k. search (rules, tests))

pub returns-in-Some : goal.returns-in-Some
returns-in-Some c = rest_stops _ _ _ (rw c.in-Some.is at (told (goal.at.returns-in-Some c).After-position))

pub returns-in-None : goal.returns-in-None
returns-in-None c = rest_through _ _ (search rules) c.requires (rw c.in-None.is at (told (goal.at.returns-in-None c).After-position))
