-- Series of any run that differ in their last reading alone: all others are 0. Whoever takes in days must tell them
-- apart.
-- Assumes nothing.
use mathlib.Core.Path.{◌≡◌, sym, ap, ◌∙◌}
use mathlib.Core.Logic.{⊎_elim}
use mathlib.Core.List.{List, [], ◌∷◌, ◌++◌}
use Prim.Native.Nat.{ℕ, ◌+◌, ◌-◌, ◌≤◌, ◌<◌}
use native.Mathlib.Nat.{le_antisymm}
use native.Mathlib.Decide.{dec_lt}
use native.Mathlib.Omega.{arith}
use lib.ListN.{length, get_or, take, drop, replicate, length-append, length-replicate, length-drop, get_or-append, get_or-eq_default}
use lib.Seq.{get_or-append-add, take-append-le, drop-append-le}
use Rattle.ranges.proofs.Bools.{decided}
use Rattle.ranges.proofs.Tables.{table_cong}
use Rattle.answers.specs.Said.{Said}
use Rattle.readings.specs.declared.Run.{Run}
use Rattle.readings.specs.Runs.{run_days, day_len, day_start, run_readings, reading}
use Rattle.readings.specs.Legal.{peak_of}
use Rattle.readings.specs.Illegal.{LegalSeries}
use Rattle.readings.specs.Part.{no_day, run_part}
use Rattle.readings.specs.Days.{offered, days_of, AsWhole}
use Rattle.readings.proofs.Runs.{len_some, start_more, start_below, run_all}
use Rattle.readings.proofs.Legal.{reading_le}
use Rattle.readings.proofs.Illegal.{all_legal_in}
use Rattle.readings.proofs.Part.{HasDay, has_day, part_none, part_of}
use Rattle.readings.proofs.Given.{offered_stays}
use Rattle.demands.specs.Wrong.{WrongDays}
use Rattle.demands.specs.Wrong.WrongDays.{first_day, last_day, kept}
use Rattle.demands.proofs.Series.{zeros}

module _ (run : Run) (many : 1 < run_days run) where
  -- the last day, from 0
  abbrev last : ℕ
  last = run_days run - 1

  end_is : day_start run last + day_len run last ≡ run_readings run
  end_is =
      let e : last + 1 ≡ run_days run = omega arith in
      sym (start_more run last) ∙ ap (day_start run) e ∙ run_all run

  abbrev before : List ℕ
  before = replicate (run_readings run - 1) 0

  before_long : length before ≡ run_readings run - 1
  before_long = length-replicate {A = ℕ} (run_readings run - 1) 0

  some : 1 ≤ run_readings run
  some = omega (arith, end_is, len_some run last)

  abbrev pub ends : ℕ → List ℕ
  ends v = before ++ (v ∷ [])

  ends_long : (v : ℕ) → length (ends v) ≡ run_readings run
  ends_long v = length-append before (v ∷ []) ∙ omega (arith, before_long, some)

  ends_low : (v i : ℕ) → get_or (ends v) i 0 ≤ v
  ends_low v i = go (dec_lt i (length before)) (dec_lt (length before) i)
    where
      go : Dec (i < length before) → Dec (length before < i) → get_or (ends v) i 0 ≤ v
      go (yes l) m = omega (arith, get_or-append before (v ∷ []) 0 i l, zeros (run_readings run - 1) i)
      go (no l) (yes m) = omega (arith, get_or-eq_default {A = ℕ} (ends v) 0 {n = i} (omega (arith, length-append before (v ∷ []))))
      go (no l) (no m) =
          let e : i ≡ length before + 0 = omega arith in
          rw e (omega (arith, get_or-append-add before (v ∷ []) 0 0))

  ends_last : (v : ℕ) → reading run (ends v) last (day_len run last - 1) ≡ v
  ends_last v =
      let e : day_start run last + (day_len run last - 1) ≡ length before + 0 = omega (arith, end_is, before_long, len_some run last) in
      ap (λ (i : ℕ). get_or (ends v) i 0) e ∙ get_or-append-add before (v ∷ []) 0 0

  pub ends_legal : (v limit : ℕ) → v ≤ limit → LegalSeries run limit (ends v)
  ends_legal v limit l = record { long = ends_long v; legal = λ d p h m. omega (arith, ends_low v (day_start run d + p)) }

  pub ends_peak : (v : ℕ) → peak_of run (ends v) (run_days run) ≡ v
  ends_peak v =
      le_antisymm ((all_legal_in run v (ends v)).1 (λ d p h m. ends_low v (day_start run d + p)))
      (omega (arith, ends_last v, reading_le run (ends v) (run_days run) last (day_len run last - 1) (omega arith) (omega (arith, len_some run last))))

  -- the days before the last do not tell them apart
  part_same : (v w d : ℕ) → d < last → run_part run (ends v) (d + 1) ≡ run_part run (ends w) (d + 1)
  part_same v w d h =
      ⊎_elim (λ t. sym (part_none run (ends v) (d + 1) t) ∙ part_none run (ends w) (d + 1) t)
      (λ f. let n = has_day run (d + 1) f in cut n v ∙ sym (cut n w)) (decided (no_day run (d + 1)))
    where
      cut : HasDay run (d + 1) → (u : ℕ) → run_part run (ends u) (d + 1) ≡ take (day_len run d) (drop (day_start run d) before)
      cut n u =
          let inside : day_start run d + day_len run d ≤ length before = omega (arith, before_long, start_below run last d h, end_is, len_some run last) in
          part_of run (ends u) d
          (record { on = omega (arith, n.to); inside = omega (arith, length-append before (u ∷ [])) })
          ∙ ap (take (day_len run d)) (drop-append-le (day_start run d) before (u ∷ []) (omega arith))
          ∙ take-append-le (day_len run d) (drop (day_start run d) before) (u ∷ []) (omega (arith, length-drop (day_start run d) before))

  days_same : (v w : ℕ) → days_of run (ends v) last ≡ days_of run (ends w) last
  unfolding days_of
  days_same v w = table_cong _ _ last (λ d h. part_same v w d h)

  -- a wrong way to take in days comes to the same state, so the whole series would be answered the same
  module _ (limit : ℕ) (one : 1 ≤ limit) where
    legal_0 : LegalSeries run limit (ends 0)
    legal_0 = ends_legal 0 limit (omega arith)

    legal_1 : LegalSeries run limit (ends 1)
    legal_1 = ends_legal 1 limit one

    same_state :
        {S : Type 0} {step : S → List ℕ → S} {start : S}
        → WrongDays run limit step start
        → offered step start (days_of run (ends 0) (run_days run)) ≡ offered step start (days_of run (ends 1) (run_days run))
    same_state (first_day f) = f (ends 0) (ends 1) legal_0 legal_1 (part_same 0 1 0 (omega arith))
    same_state {step = step} {start = start} (last_day f) = f (ends 0) legal_0 ∙ ap (offered step start) (days_same 0 1) ∙ sym (f (ends 1) legal_1)
    same_state {step = step} {start = start} (kept f) = offered_stays step start (f start) _ ∙ sym (offered_stays step start (f start) _)

    pub same_whole :
        {S A : Type 0} {answer : S → List ℕ → Said} {step : S → List ℕ → S} {start : S} {closes : S → A} {whole : List ℕ → A}
        → AsWhole run limit answer step start closes whole
        → WrongDays run limit step start
        → whole (ends 0) ≡ whole (ends 1)
    same_whole {closes = closes} w wrong = sym (w.all_days (ends 0) legal_0) ∙ ap closes (same_state wrong) ∙ w.all_days (ends 1) legal_1
