-- A day that is handed out is its readings of the series, and else empty; and no other part meets that.
-- Assumes nothing.
use mathlib.Core.Path.{◌≡◌, refl, sym, ap, ◌∙◌}
use mathlib.Core.Bool.{true, false}
use mathlib.Core.Logic.{◌⊎◌, inl, inr, ⊎_elim}
use mathlib.Core.List.{List, []}
use Prim.Native.Nat.{ℕ, zero, suc, ◌+◌, ◌<◌}
use native.Mathlib.Decide.{dec_lt}
use native.Mathlib.Omega.{arith}
use lib.ListN.{length, get_or}
use lib.Seq.{ext_get_or}
use Rattle.ranges.proofs.Bools.{clash, decided, refutes}
use Rattle.answers.specs.declared.Edition.{Edition}
use Rattle.answers.specs.Ruling.{lacks_year, HasYear}
use Rattle.answers.proofs.Laws.{has_year}
use Rattle.editions.specs.declared.Editions.{Editions}
use Rattle.editions.specs.Editions.{edition_of, year_out}
use Rattle.readings.specs.declared.Run.{Run}
use Rattle.readings.specs.Runs.{run_days, day_len, day_start, reading}
use Rattle.readings.specs.Part.{run_year, no_day, run_part, day_part}
use Rattle.readings.proofs.Runs.{start_suc}
use Rattle.readings.proofs.Part.{HasDay, Held, has_day, part_none, part_past, length_part, part_at, no_year_part, year_part}
use Rattle.demands.specs.Module.{Module, ours}
use Rattle.demands.specs.Answers.{HasWhole, Nothing, HandedOut}
use Rattle.demands.specs.Answers.Nothing.{no_year, day_0, beyond, not_held}

-- a day that the series holds, in a year with an edition
module _ (es : Editions) (run : Run) (xs : List ℕ) where
  abbrev ed : Edition
  ed = edition_of es (run_year run)

  held : (d : ℕ) → HasWhole es run xs d → Held run xs d
  held d h = record { on = h.on; inside = h.inside }

  is_part : (day : ℕ) → HasYear ed (run_year run) → day_part ed run xs day ≡ run_part run xs day
  is_part day h = sym (year_part ed run xs day ((has_year ed (run_year run)).1 h))

  -- no day, or none that the series holds
  none : (day : ℕ) → run_part run xs day ≡ [] → day_part ed run xs day ≡ []
  none day e =
      ⊎_elim (λ t. sym (no_year_part ed run xs day t)) (λ f. sym (year_part ed run xs day f) ∙ e)
      (decided (lacks_year ed (run_year run)))

  no_day_law : (day : ℕ) → (HasDay run day → ⊥) → run_part run xs day ≡ []
  no_day_law day n = ⊎_elim (λ t. sym (part_none run xs day t)) (λ f. absurd (n (has_day run day f))) (decided (no_day run day))

  past : (day : ℕ) → length xs < day_start run day → run_part run xs day ≡ []
  past day l = ⊎_elim (λ t. sym (part_none run xs day t)) (λ f. sym (part_past run xs day f l)) (decided (no_day run day))

  empty : (day : ℕ) → Nothing es run xs day → day_part ed run xs day ≡ []
  empty day (no_year n) = sym (no_year_part ed run xs day ((refutes _ (has_year ed (run_year run))).1 n))
  empty day (day_0 e) = none day (no_day_law day (λ h. omega (arith, e, h.from)))
  empty day (beyond l) = none day (no_day_law day (λ h. omega (arith, l, h.to)))
  empty day (not_held l) = none day (past day l)

  long : (d : ℕ) → HasWhole es run xs d → length (day_part ed run xs (d + 1)) ≡ day_len run d
  long d h = ap length (is_part (d + 1) h.year) ∙ length_part run xs d (held d h)

  each : (d p : ℕ) → HasWhole es run xs d → p < day_len run d → get_or (day_part ed run xs (d + 1)) p 0 ≡ reading run xs d p
  each d p h l = ap (λ (day : List ℕ). get_or day p 0) (is_part (d + 1) h.year) ∙ part_at run xs d (held d h) p l

pub handed_out : HandedOut ours
handed_out = record { long = long; each = each; empty = empty }

-- two modules that hand days out so hand out alike, whatever is asked for
module _ (m n : Module) (h : HandedOut m) (k : HandedOut n) (es : Editions) (run : Run) (xs : List ℕ) where
  abbrev Same : ℕ → Type 0
  Same day = m.part es run xs day ≡ n.part es run xs day

  same_nothing : (day : ℕ) → Nothing es run xs day → Same day
  same_nothing day e = h.empty es run xs day e ∙ sym (k.empty es run xs day e)

  same_whole : (d : ℕ) → HasWhole es run xs d → Same (d + 1)
  same_whole d w =
      ext_get_or 0 _ _ (h.long es run xs d w ∙ sym (k.long es run xs d w))
      (λ p l.
      let i : p < day_len run d = omega (arith, l, h.long es run xs d w) in
      h.each es run xs d p w i ∙ sym (k.each es run xs d p w i))

  pub same_part : (day : ℕ) → Same day
  same_part zero = same_nothing 0 (day_0 refl)
  same_part (suc d) = go (decided (year_out es y)) (dec_lt d (run_days run)) (dec_lt (length xs) (day_start run (suc d)))
    where
      y : ℕ
      y = run_year run

      go : (year_out es y ≡ true) ⊎ (year_out es y ≡ false) → Dec (d < run_days run) → Dec (length xs < day_start run (suc d)) → Same (suc d)
      go (inl e) b c = same_nothing (suc d) (no_year (λ w. clash e ((has_year (edition_of es y) y).1 w)))
      go (inr e) (no b) c = same_nothing (suc d) (beyond (omega arith))
      go (inr e) (yes b) (yes c) = same_nothing (suc d) (not_held c)
      go (inr e) (yes b) (no c) =
          let one : suc d ≡ d + 1 = omega arith in
          rw one (same_whole d (record { year = (has_year (edition_of es y) y).0 e; on = b; inside = omega (arith, start_suc run d) }))
