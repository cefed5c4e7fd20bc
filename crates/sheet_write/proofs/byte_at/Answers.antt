-- `sheet_write::byte_at` meets its contract: the code's test is the definition's.
-- Assumes nothing.
use borrow.Author.Tests.{lt-ltb, le-ltb}
use Rattle.sheet_write.proofs.byte_at.Goals as goal

pub returns-then-i-lt-WINDOWS_AT : goal.returns-then-i-lt-WINDOWS_AT
returns-then-i-lt-WINDOWS_AT c = simp (lt-ltb _ _ c.if-i-lt-WINDOWS_AT.true)

pub returns : goal.returns
returns c = simp (le-ltb _ _ c.if-i-lt-WINDOWS_AT.false) c.pack.ensures
