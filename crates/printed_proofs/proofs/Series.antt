-- Laws of a run's series that is given by its readings: it is as long as its days, and it has these readings. And of
-- one quarter of one day.
-- Assumes nothing.
use mathlib.Core.Path.{◌≡◌, sym, ap, ◌∙◌}
use mathlib.Core.Bool.{true, false, and-false}
use mathlib.Core.List.{List, [], ◌++◌}
use Prim.Native.Nat.{ℕ, zero, suc, ◌+◌, ◌-◌, ◌<◌}
use native.Mathlib.Nat.{not-suc-le-zero}
use native.Mathlib.Decide.{dec_lt, ℕ_discrete}
use native.Mathlib.Omega.{arith}
use borrow.Author.Tests.{eq-eqb, ne_eqb}
use lib.Dec.{eqb}
use lib.ListN.{length, get_or, length-append, get_or-append, get_or-eq_default}
use lib.Seq.{get_or-append-add}
use Rattle.ranges.specs.Ranges.{table}
use Rattle.ranges.proofs.Bools.{pair}
use Rattle.ranges.proofs.Joined.{joined_none, joined_suc}
use Rattle.ranges.proofs.Tables.{length_table, get_d_table}
use Rattle.readings.specs.declared.Run.{Run}
use Rattle.readings.specs.Runs.{day_len, quarter_of, day_start, reading}
use Rattle.readings.proofs.Runs.{start_none, start_suc}
use Rattle.readings.proofs.Days.{same_before, same_day}
use Rattle.printed_proofs.specs.Examples.{series_of, is_at}

-- the one quarter that a place is, and every other
pub at_there : (run : Run) (day quarter d p : ℕ) → d + 1 ≡ day → quarter_of run d p ≡ quarter → is_at run day quarter d p ≡ true
at_there run day quarter d p a b = pair (eq-eqb (d + 1) day a) (eq-eqb (quarter_of run d p) quarter b)

pub at_other : (run : Run) (day quarter d p : ℕ) → (d + 1 ≡ day → quarter_of run d p ≡ quarter → ⊥) → is_at run day quarter d p ≡ false
at_other run day quarter d p other = go (ℕ_discrete (d + 1) day) (ℕ_discrete (quarter_of run d p) quarter)
  where
    go : Dec (d + 1 ≡ day) → Dec (quarter_of run d p ≡ quarter) → is_at run day quarter d p ≡ false
    go (no a) b = rw (ne_eqb (d + 1) day a)
    go (yes a) (no b) = rw (ne_eqb (quarter_of run d p) quarter b) (and-false (eqb (d + 1) day))
    go (yes a) (yes b) = absurd (other a b)

module _ (run : Run) (f : ℕ → ℕ → ℕ) where
  abbrev day : ℕ → List ℕ
  day d = table (f d) (day_len run d)

  series_suc : (n : ℕ) → series_of run f (suc n) ≡ series_of run f n ++ day n
  unfolding series_of
  series_suc n = joined_suc ◌++◌ _ day n

  pub series_long : (n : ℕ) → length (series_of run f n) ≡ day_start run n
  unfolding series_of
  series_long zero = ap length (joined_none ◌++◌ _ day) ∙ sym (start_none run)
  series_long (suc n) =
      ap length (series_suc n)
      ∙ length-append (series_of run f n) (day n)
      ∙ omega (arith, series_long n, length_table (f n) (day_len run n), start_suc run n)

  pub series_reads : (n d p : ℕ) → d < n → p < day_len run d → reading run (series_of run f n) d p ≡ f d p
  series_reads zero d p l m = absurd (not-suc-le-zero l)
  series_reads (suc n) d p l m = ap (λ (xs : List ℕ). reading run xs d p) (series_suc n) ∙ go (dec_lt d n) (series_reads n d p)
    where
      go : Dec (d < n) → (d < n → p < day_len run d → reading run (series_of run f n) d p ≡ f d p) → reading run (series_of run f n ++ day n) d p ≡ f d p
      go (yes h) ih = sym (same_before run (series_of run f n) (day n) n (series_long n) d p h m) ∙ ih h m
      go (no h) ih =
          let e : d ≡ n = omega arith in
          rw e (sym (same_day run (series_of run f n) (day n) n (series_long n) p) ∙ get_d_table (f n) (day_len run n) p 0 (omega (arith, ap (day_len run) e)))

  -- a bound of every f is one of every reading
  pub series_low : (b : ℕ) → 0 < b → ((d p : ℕ) → f d p < b) → (n i : ℕ) → get_or (series_of run f n) i 0 < b
  unfolding series_of
  series_low b some low zero i = rw (joined_none ◌++◌ [] day) some
  series_low b some low (suc n) i = rw (series_suc n) (go (dec_lt i (length (series_of run f n))) (series_low b some low n i))
    where
      xs : List ℕ
      xs = series_of run f n

      in_day : (p : ℕ) → Dec (p < day_len run n) → get_or (day n) p 0 < b
      in_day p (yes m) = rw (get_d_table (f n) (day_len run n) p 0 m) (low n p)
      in_day p (no m) = rw (get_or-eq_default (day n) 0 {n = p} (omega (arith, length_table (f n) (day_len run n)))) some

      go : Dec (i < length xs) → get_or xs i 0 < b → get_or (xs ++ day n) i 0 < b
      go (yes l) ih = rw (get_or-append xs (day n) 0 i l) ih
      go (no l) ih =
          let e : length xs + (i - length xs) ≡ i = omega arith in
          rw (← e, get_or-append-add xs (day n) (i - length xs) 0) (in_day (i - length xs) (dec_lt (i - length xs) (day_len run n)))
