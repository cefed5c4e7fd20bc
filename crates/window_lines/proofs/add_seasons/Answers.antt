use mathlib.Core.Path.{◌≡◌, ap, ◌∙◌}
use mathlib.Core.List.{List, []}
use mathlib.Core.Bool.{Bool}
use Prim.Native.Nat.{ℕ, ◌+◌, ◌/◌, ◌<◌}
use native.Mathlib.Omega.{arith}
use lib.ListN.{length, get_or}
use Rattle.std.specs.Simd.{first_chunks}
use Rattle.answers.specs.Ruling.{day_quarters}
use Rattle.sheet.specs.Windows.{seasons}
use Rattle.texts.proofs.Writing.{wrote_as, laid_none, laid_room, laid_more, laid_all}
use Rattle.window_lines.specs.Runs.{quarters, season_text, season_in}
use Rattle.window_lines.proofs.Runs.{season_at}
use Rattle.window_lines.proofs.add_seasons.Goals.{In-loop-k}
use Rattle.window_lines.proofs.add_seasons.Goals as goal

-- the season at place k, which is one of the four
one : (e : In-loop-k) → e.loop-k.k < seasons
one e = omega (arith, e.as_chunks.ensures.front_len, e.told-windows)

season :
    (e : In-loop-k)
    → let k = e.loop-k.k in season_text (k + 1) (quarters (get_or e.as_chunks.result.0.now k [])) ≡ season_in e.args.windows.now k
season e =
    let w = e.args.windows.now in
    let k = e.loop-k.k in
    let four : length w / day_quarters ≡ seasons = omega (arith, e.told-windows) in
    let cut = e.as_chunks.ensures.front ∙ ap (λ (n : ℕ). first_chunks day_quarters n w) four in
    ap (λ (s : List (List Bool)). season_text (k + 1) (quarters (get_or s k []))) cut ∙ season_at w k (one e) []

pub loop-k-init : goal.loop-k-init
loop-k-init c = laid_none c.requires

pub add_to-requires : goal.add_to-requires
add_to-requires c =
    let e = (goal.at.add_to-requires c).In-loop-k in
    (omega (arith, one e), rw (season e) (laid_room c.loop-k.invariant (one e)))

pub loop-k-preserved : goal.loop-k-preserved
loop-k-preserved c =
    let e = (goal.at.loop-k-preserved c).In-loop-k in
    laid_more c.loop-k.invariant (one e) (wrote_as (season e) c.add_to.ensures)

pub returns : goal.returns
returns c = laid_all c.loop-k.invariant (omega (arith, c.as_chunks.ensures.front_len, c.told-windows))
