-- `window_lines::Season::add_to` meets its contract, a law for each case.
-- Assumes nothing.
use mathlib.Core.Path.{◌≡◌, ap}
use native.Mathlib.Omega.{arith}
use lib.ListN.{length}
use borrow.Author.Rules.{rules}
use Rattle.answers.specs.Ruling.{day_quarters}
use Rattle.texts.specs.Text.{text_over}
use Rattle.texts.proofs.Writing.{wrote_as, fitted}
use Rattle.window_lines.specs.Runs.{quarters, none_line, run_text, season_text}
use Rattle.window_lines.proofs.Runs.{season_runs, season_none, some_set, none_set}
use Rattle.window_lines.proofs.Season.add_to.Goals.{Then-contains, Else-contains}
use Rattle.window_lines.proofs.Season.add_to.Goals as goal

-- some quarter of the season is set, or none is
runs :
    (e : Then-contains)
    → let s = e.args.self.now in
    let f = quarters s.set.now in text_over (run_text s.number f) day_quarters ≡ season_text s.number f
runs e =
    season_runs _ _ (some_set _ (search rules) (rw e.if-contains.true at e.contains.ensures.cases))

none : (e : Else-contains) → let s = e.args.self.now in none_line s.number ≡ season_text s.number (quarters s.set.now)
none e =
    season_none _ _ (none_set _ (search rules) (rw e.if-contains.false at e.contains.ensures.cases))

pub add_runs-requires : goal.add_runs-requires
add_runs-requires c = (c.requires.0, omega (arith, c.requires.1, ap length (runs (goal.at.add_runs-requires c).Then-contains)))

pub returns-then-contains : goal.returns-then-contains
returns-then-contains c = wrote_as (runs (goal.at.returns-then-contains c).Then-contains) c.add_runs.ensures

pub returns-else-contains : goal.returns-else-contains
returns-else-contains c =
    let is = none (goal.at.returns-else-contains c).Else-contains in
    wrote_as is (fitted c.add.ensures (omega (arith, c.requires.1, ap length is)))
