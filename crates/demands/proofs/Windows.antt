-- The peak, the curves and the kept quarters of the definitions are those of specs/Windows.
-- Assumes nothing.
use mathlib.Core.Path.{◌≡◌, refl, sym, ap}
use mathlib.Core.Bool.{true, cond, ◌&&◌, ◌||◌, or-false}
use mathlib.Core.Logic.{◌↔◌}
use mathlib.Core.List.{List}
use Prim.Native.Nat.{ℕ, ◌*◌, ◌≤◌, ◌<◌}
use native.Mathlib.Nat.{le_antisymm}
use native.Mathlib.Decide.{ℕ_discrete}
use native.Mathlib.Omega.{arith}
use borrow.Author.Tests.{lt-ltb, le-ltb, ltb-true, eq-eqb, ne_eqb, eqb-true}
use lib.Dec.{ltb, eqb}
use lib.ListN.{get_or}
use Rattle.ranges.specs.Ranges.{count_over}
use Rattle.ranges.proofs.Inside.{number_if_low}
use Rattle.ranges.proofs.Bools.{both, pair}
use Rattle.ranges.proofs.Largest.{largest_le}
use Rattle.ranges.proofs.Tests.{count_cong}
use Rattle.answers.specs.declared.Edition.{Edition}
use Rattle.periods.specs.Period.{period_days}
use Rattle.readings.specs.declared.Run.TheVariants.{Period}
use Rattle.readings.specs.Runs.{day_len, quarter_of, reading}
use Rattle.readings.specs.Legal.{day_peak, peak_of}
use Rattle.readings.proofs.Legal.{reading_le}
use Rattle.windows.specs.Chosen.{above_line, comes_before, rank, kept}
use Rattle.grid_curves.specs.Curves.{in_season, top_of, curve_at}
use Rattle.grid.specs.Rows.{period_peak}
use Rattle.grid_curves.proofs.Curves.{in_curve}
use Rattle.demands.specs.Windows.{NoneAboveIn, IsPeak, IsCurve, ahead, Kept}

-- a value that counts where a test passes
module _ (y : ℕ) (xs : List ℕ) where
  pub peak_plain : IsPeak y xs (period_peak y xs)
  unfolding peak_of day_peak
  peak_plain =
      record {
        bound = λ d p l h. reading_le (Period y) xs (period_days y) d p l h;
        least =
            λ b none. largest_le (day_peak (Period y) xs) (period_days y) b
            (λ d l. largest_le (reading (Period y) xs d) (day_len (Period y) d) b (λ p h. none d p l h));
      }

  abbrev curve : ℕ → ℕ → ℕ
  curve s q = curve_at y xs (period_days y) s q

  curve_least : (s q b : ℕ) → NoneAboveIn y xs s q b → curve s q ≤ b
  unfolding curve_at top_of
  curve_least s q b none =
      largest_le _ (period_days y) b (λ d l.
      number_if_low (in_season y d s) (λ e.
      largest_le _ (day_len (Period y) d) b (λ p h.
      number_if_low (eqb (quarter_of (Period y) d p) q) (λ f. none d p l h (eqb-true _ _ e) (eqb-true _ _ f)))))

  pub curve_plain : (s : ℕ) → IsCurve y xs s (curve s)
  curve_plain s =
      record {
        bound = λ q m d p l h e f. rw (e, f) at (in_curve y xs (period_days y) d p l h);
        least = λ q m b none. curve_least s q b none;
      }

  -- no other number is the peak, no other numbers the curve
  pub peak_one : (peak : ℕ) → IsPeak y xs peak → peak ≡ period_peak y xs
  peak_one peak i = le_antisymm (i.least (period_peak y xs) peak_plain.bound) (peak_plain.least peak i.bound)

  pub curve_one : (s : ℕ) (c : ℕ → ℕ) → IsCurve y xs s c → (q : ℕ) → q < 96 → c q ≡ curve s q
  curve_one s c i q m = le_antisymm (i.least q m (curve s q) ((curve_plain s).bound q m)) ((curve_plain s).least q m (c q) (i.bound q m))

-- kept quarters: the test of the definition, and what specs/Windows says, of values that are the same
module _ (ed : Edition) (peak : ℕ) (c : ℕ → ℕ) (values : List ℕ) (same : (q : ℕ) → q < 96 → c q ≡ get_or values q 0) where
  line_same : (p : ℕ) → p < 96 → above_line ed peak (get_or values p 0) ≡ ltb (ed.line * peak) (100 * c p)
  unfolding above_line
  line_same p l = ap (λ (v : ℕ). ltb (ed.line * peak) (100 * v)) (sym (same p l))

  order : (v w p q : ℕ) → cond (eqb v w) (ltb p q) (ltb w v) ≡ (ltb w v || (eqb v w && ltb p q))
  order v w p q = go (ℕ_discrete v w)
    where
      go : Dec (v ≡ w) → cond (eqb v w) (ltb p q) (ltb w v) ≡ (ltb w v || (eqb v w && ltb p q))
      go (yes e) = simp (eq-eqb v w e, le-ltb w v (omega arith))
      go (no n) = simp (ne_eqb v w n, or-false)

  ahead_same : (q p : ℕ) → q < 96 → p < 96 → (above_line ed peak (get_or values p 0) && comes_before values p q) ≡ ahead ed peak c q p
  unfolding comes_before
  ahead_same q p m l = rw (line_same p l, ← same p l, ← same q m, order (c p) (c q) p q) refl

  rank_same : (q : ℕ) → q < 96 → rank ed peak values q ≡ count_over (ahead ed peak c q) 96
  unfolding rank
  rank_same q m = count_cong _ (ahead ed peak c q) 96 (λ p l. ahead_same q p m l)

  pub kept_plain : (q : ℕ) → q < 96 → (kept ed peak values q ≡ true) ↔ Kept ed peak c q
  unfolding kept
  kept_plain q m =
      rw (line_same q m, rank_same q m) (
        (λ e. let b = both (ltb (ed.line * peak) (100 * c q)) _ e in record { above = ltb-true _ _ b.0; few = ltb-true _ _ b.1 }),
        λ k. pair (lt-ltb (ed.line * peak) (100 * c q) k.above) (lt-ltb (count_over (ahead ed peak c q) 96) ed.limit k.few),
      )
