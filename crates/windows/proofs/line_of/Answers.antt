-- `windows::line_of` meets its contract: a percentage of 8 bits of a peak of 32 bits fits 64.
-- Assumes nothing.
use mir.Facts.{Fits-le, Fits-lit}
use Rattle.ranges.proofs.Products.{product}
use borrow.Author.Rules.{rules}
use Rattle.windows.proofs.line_of.Goals as goal

pub overflow_mul-result : goal.overflow_mul-result
overflow_mul-result c = Fits-le (product _ _ {m = 255} {n = 4294967295} (search rules) (search rules)) (Fits-lit tt)
