-- `grid_head::span_of` meets its contract: a constant table, and no byte behind the last field.
-- Assumes nothing.
use Rattle.std.proofs.Common.{◌≡◌, ℕ, zero, suc, ◌<◌, List, [], ◌∷◌, refl, ◌∙◌, slice_index_or, arith}
use lib.ListN.{get_or}
use Rattle.fields.specs.declared.Span.{Span}
use Rattle.grid_head.proofs.GridLayout.{grid_widths, grid_starts, grid_start_law, grid_width, start_none, width_none}
use Rattle.grid_head.proofs.span_of.Goals as goal

abbrev table : List Span
table = record { start = 0; width = 3 } ∷ record { start = 3; width = 2 } ∷ record { start = 5; width = 2 } ∷ record { start = 7; width = 1 } ∷ []

in_table :
    (k : ℕ)
    → k < 4
    → slice_index_or table k (record { start = 0; width = 0 }) ≡ record { start = get_or grid_starts k 0; width = get_or grid_widths k 0 }
in_table zero l = refl
in_table (suc zero) l = refl
in_table (suc (suc zero)) l = refl
in_table (suc (suc (suc zero))) l = refl
in_table (suc (suc (suc (suc k)))) l = absurd (omega arith)

pub returns-then-k-lt4 : goal.returns-then-k-lt4
returns-then-k-lt4 c es =
    let a = c.args in
    in_table a.k c.if-k-lt4.true
    ∙ (λ i. record { start = grid_start_law es a.head.now a.k (omega arith) i; width = grid_width es a.head.now a.k (omega arith) i })

pub returns : goal.returns
returns c es =
    let a = c.args in
    λ i. record { start = start_none es a.head.now a.k (omega arith) i; width = width_none es a.head.now a.k (omega arith) i }
