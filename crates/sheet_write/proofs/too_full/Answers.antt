-- `sheet_write::too_full` meets its contract: the test of each season, in a row.
-- Assumes nothing.
use mathlib.Core.Path.{◌≡◌, ap, ◌∙◌}
use mathlib.Core.Bool.{Bool}
use mathlib.Core.List.{List, []}
use Prim.Native.Nat.{ℕ, ◌/◌}
use native.Mathlib.Omega.{arith}
use borrow.Author.Rules.{rules}
use lib.ListN.{length, get_or}
use Rattle.std.specs.List.{count_by}
use Rattle.std.specs.Simd.{first_chunks}
use Rattle.std.proofs.lemmas.Iterator.{YieldsList-from_slice}
use Rattle.std.proofs.lemmas.Iterator.Search.{any_from_yields_List}
use Rattle.ranges.specs.Ranges.{any_over}
use Rattle.ranges.proofs.Tests.{any_cong}
use Rattle.editions.proofs.Refused.{any_listed}
use Rattle.answers.specs.Ruling.{day_quarters}
use Rattle.sheet.specs.Windows.{seasons, too_many, too_full}
use Rattle.sheet.proofs.Windows.{chunk_at, season_cut}
use Rattle.sheet_write.proofs.too_full.Goals as goal

pub returns : goal.returns
unfolding too_full
returns c =
    let w = c.args.windows.now in
    let full : List Bool → Bool = λ s. too_many c.args.edition (count_by (λ b. b) s) in
    let four : length w / day_quarters ≡ seasons = omega (arith, c.told-windows) in
    let cut = c.as_chunks.ensures.front ∙ ap (λ (n : ℕ). first_chunks day_quarters n w) four in
    any_from_yields_List full _ _ _ c.any.ensures.ran (YieldsList-from_slice c.as_chunks.result.0.now cc) (λ x b q k. search rules)
    ∙ any_listed full [] _
    ∙ ap (any_over _) (c.as_chunks.ensures.front_len ∙ four)
    ∙ any_cong _ _ seasons
    (λ k l.
    ap (λ (s : List (List Bool)). full (get_or s k [])) cut
    ∙ ap full (chunk_at day_quarters seasons w k [] l)
    ∙ ap (too_many c.args.edition) (season_cut w k c.told-windows l))
