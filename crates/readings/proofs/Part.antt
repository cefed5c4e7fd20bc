-- Laws of a day's part of a series: the code's cases, and the readings of a day that the series holds.
-- Assumes nothing.
use mathlib.Core.Path.{◌≡◌, refl, sym, ap, ◌∙◌}
use mathlib.Core.Bool.{true, false}
use mathlib.Core.List.{List, []}
use Prim.Native.Nat.{ℕ, ◌+◌, ◌-◌, ◌≤◌, ◌<◌}
use native.Mathlib.Omega.{arith}
use borrow.Author.Tests.{lt-ltb, le-ltb, ltb-false, ne_eqb, eqb-false}
use lib.Dec.{ltb, eqb}
use lib.ListN.{length, get_or, take, drop, length-take, length-drop}
use lib.Seq.{get_or-take, get_or-drop}
use Rattle.ranges.proofs.Bools.{neither}
use Rattle.answers.specs.declared.Edition.{Edition}
use Rattle.answers.specs.Ruling.{lacks_year}
use Rattle.readings.specs.declared.Run.{Run}
use Rattle.readings.specs.Runs.{run_days, day_len, day_start, reading}
use Rattle.readings.specs.Part.{run_year, no_day, run_part, day_part}
use Rattle.readings.proofs.Runs.{start_more}

module _ (run : Run) (xs : List ℕ) (day : ℕ) where
  pub part_none : no_day run day ≡ true → [] ≡ run_part run xs day
  unfolding run_part
  part_none e = rw e

  module _ (n : no_day run day ≡ false) where
    pub part_past : length xs < day_start run day → [] ≡ run_part run xs day
    unfolding run_part
    part_past h = simp (n, lt-ltb (length xs) (day_start run day) h)

    pub part_held :
        {at size : ℕ}
        → day_start run day ≤ length xs
        → at ≡ day_start run (day - 1)
        → size ≡ day_len run (day - 1)
        → take size (drop at xs) ≡ run_part run xs day
    unfolding run_part
    part_held h ea es = simp (n, le-ltb (length xs) (day_start run day) h, ea, es)

-- a run does not have a day exactly where it is none of its days
pub record HasDay (run : Run) (day : ℕ) : Type 0 where
  pub from : 1 ≤ day
  pub to : day ≤ run_days run

module _ (run : Run) (day : ℕ) where
  pub has_day : no_day run day ≡ false → HasDay run day
  unfolding no_day
  has_day e =
      let a = neither (eqb day 0) (ltb (run_days run) day) e in
      let some = eqb-false day 0 a.0 in
      record { from = omega arith; to = ltb-false _ _ a.1 }

  pub day_there : HasDay run day → no_day run day ≡ false
  unfolding no_day
  day_there h = simp (ne_eqb day 0 (λ z. omega (arith, h.from)), le-ltb (run_days run) day h.to)

-- readings cut out of a series at a place
module _ (xs : List ℕ) {at size start len : ℕ} (ea : at ≡ start) (es : size ≡ len) where
  pub cut_at : (p : ℕ) → p < len → get_or (take size (drop at xs)) p 0 ≡ get_or xs (start + p) 0
  cut_at p l =
      let m : p < size = omega arith in
      rw (get_or-take, get_or-drop) (ap (λ (k : ℕ). get_or xs (k + p) 0) ea)

  pub cut_long : at + size ≤ length xs → length (take size (drop at xs)) ≡ len
  cut_long h = simp (length-take, length-drop) (omega arith)

-- a day, counted from 0, that a run has, and the series holds
pub record Held (run : Run) (xs : List ℕ) (d : ℕ) : Type 0 where
  pub on : d < run_days run
  pub inside : day_start run d + day_len run d ≤ length xs

module _ (run : Run) (xs : List ℕ) (d : ℕ) (h : Held run xs d) where
  pub part_of : run_part run xs (d + 1) ≡ take (day_len run d) (drop (day_start run d) xs)
  part_of =
      let e : d ≡ d + 1 - 1 = omega arith in
      sym
      (part_held run xs (d + 1)
      (day_there run (d + 1) (record { from = omega arith; to = omega (arith, h.on) }))
      (omega (arith, h.inside, start_more run d))
      (ap (day_start run) e) (ap (day_len run) e))

  pub length_part : length (run_part run xs (d + 1)) ≡ day_len run d
  length_part = ap length part_of ∙ cut_long xs refl refl h.inside

  pub part_at : (p : ℕ) → p < day_len run d → get_or (run_part run xs (d + 1)) p 0 ≡ reading run xs d p
  part_at p l = rw part_of (cut_at xs refl refl p l)

-- what is handed out by an edition: nothing in a year for which it does not hold, else the part
module _ (ed : Edition) (run : Run) (xs : List ℕ) (day : ℕ) where
  pub no_year_part : lacks_year ed (run_year run) ≡ true → [] ≡ day_part ed run xs day
  unfolding day_part
  no_year_part e = rw e

  pub year_part : lacks_year ed (run_year run) ≡ false → run_part run xs day ≡ day_part ed run xs day
  unfolding day_part
  year_part e = rw e
