-- `texts::add_bytes` meets its contract: the bytes fit, and are laid over the buffer, or nothing is done.
-- Assumes nothing.
use native.Mathlib.Omega.{arith}
use Rattle.texts.proofs.Text.{wrote_laid, fits, short}
use Rattle.texts.proofs.add_bytes.Goals as goal

pub returns-then-buf-bytes : goal.returns-then-buf-bytes
returns-then-buf-bytes c = short _ _ _ (omega arith)

pub returns-then-buf-bytes-2 : goal.returns-then-buf-bytes-2
returns-then-buf-bytes-2 c = short _ _ _ (omega arith)

pub shape_of-buf : goal.shape_of-buf
shape_of-buf c = (wrote_laid (omega arith) c.lay.ensures).same

pub returns : goal.returns
returns c = fits (wrote_laid (omega arith) c.lay.ensures)
