-- `day_figures::plain_day` meets its contract, figure by figure.
-- Assumes nothing.
use mathlib.Core.Path.{◌≡◌, ap, ◌∙◌}
use borrow.Author.Rules.{rules}
use Prim.Native.Nat.{◌+◌, max}
use Rattle.day_figures.specs.declared.Tops.{Tops}
use Rattle.day_figures.proofs.plain_day.Goals as goal

pub returns : goal.returns
returns c =
    let f = c.args.f in
    let tops = c.tops_of-t.ensures.0 in
    let larger : c.max.result ≡ max f.peak c.tops_of-t.result.peak = search rules in
    let peak = larger ∙ ap (λ (t : Tops). max f.peak t.peak) tops in
    λ i. record { peak = peak i; sum = f.sum + (tops i).sum; any = f.any; high = f.high; day = f.day; quarter = f.quarter }
