-- Texts that are worked out: what a definition says, and the bytes that are printed. A room states its list of cases
-- once, and the checker computes them.
-- Assumes nothing.
use mathlib.Core.Path.{◌≡◌}
use mathlib.Core.List.{List, [], ◌∷◌}
use Prim.Native.Nat.{ℕ}

-- a text of the definitions, and the bytes that are printed
pub record Case : Type 0 where
  pub text : List ℕ
  pub printed : List ℕ

-- every case of a list holds
abbrev pub Hold : List Case → Type 0
Hold [] = Unit {0}
Hold (c ∷ cs) = (c.text ≡ c.printed) × Hold cs
