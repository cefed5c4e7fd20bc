-- Laws of a day that is taken in reading by reading: none is taken in at first, and one more after the first p gives
-- the first p + 1.
-- Assumes nothing.
use mathlib.Core.Path.{◌≡◌, refl, sym, ap, ◌∙◌}
use mathlib.Core.Bool.{Bool, true, false, cond, not, ◌&&◌, ◌||◌, or-false}
use Prim.Native.Nat.{ℕ, ◌+◌, ◌<◌, max}
use native.Mathlib.Decide.{dec_lt}
use native.Mathlib.Omega.{arith}
use borrow.Author.Tests.{lt-ltb, le-ltb}
use lib.Dec.{ltb}
use Rattle.ranges.specs.Ranges.{largest_over, sum_over, any_over, largest_in, place_in}
use Rattle.ranges.proofs.Largest.{largest_none, largest_more}
use Rattle.ranges.proofs.Sums.{sum_none, sum_more}
use Rattle.ranges.proofs.Tests.{any_none, any_more}
use Rattle.ranges.proofs.Inside.{newer}
use Rattle.readings.specs.Runs.{quarter_in}
use Rattle.tariff.specs.declared.Figures.{Figures}
use Rattle.figures.specs.Figures.{DayRecord, record_to, better, taken_in}
use Rattle.figures.proofs.Taken.{value_more, figure_of, place_more}

-- the record of one reading v alone, which stands for quarter q and is in-window or not
abbrev pub one_reading : ℕ → Bool → ℕ → DayRecord
one_reading q counts v = record { peak = v; sum = v; any = counts; high = v; quarter = q }

-- The highest so far is fh where there is one (fa), then that of the readings taken in, H where there is one (a), then
-- the next reading v where it counts (t); x, h and o are a figure of each. In whichever order the three are joined, the
-- same one stays.
later : (fh H v x h o : ℕ) → cond (ltb (cond (ltb fh H) H fh) v) o (cond (ltb fh H) h x) ≡ cond (ltb fh (cond (ltb H v) v H)) (cond (ltb H v) o h) x
later fh H v x h o = go (dec_lt fh H) (dec_lt H v)
  where
    go : Dec (fh < H) → Dec (H < v) → cond (ltb (cond (ltb fh H) H fh) v) o (cond (ltb fh H) h x) ≡ cond (ltb fh (cond (ltb H v) v H)) (cond (ltb H v) o h) x
    go (yes a) (yes b) = simp (lt-ltb fh H a, lt-ltb H v b, lt-ltb fh v (omega arith))
    go (yes a) (no b) = simp (lt-ltb fh H a, le-ltb H v (omega arith))
    go (no a) (yes b) = simp (le-ltb fh H (omega arith), lt-ltb H v b)
    go (no a) (no b) = simp (le-ltb fh H (omega arith), le-ltb H v (omega arith), le-ltb fh v (omega arith))

chosen :
    (fa a t : Bool) (fh H v x h o : ℕ)
    → let now = a && (not fa || ltb fh H) in
    let next = t && (not a || ltb H v) in
    cond (t && (not (fa || a) || ltb (cond now H fh) v)) o (cond now h x)
    ≡ cond ((a || t) && (not fa || ltb fh (cond next v H))) (cond next o h) x
chosen fa false false fh H v x h o = refl
chosen fa true false fh H v x h o = refl
chosen false false true fh H v x h o = refl
chosen true false true fh H v x h o = refl
chosen false true true fh H v x h o = refl
chosen true true true fh H v x h o = later fh H v x h o

-- whichever is chosen; and a figure that is chosen only where there is one
same : (b : Bool) (d : ℕ) → cond b d d ≡ d
same true d = refl
same false d = refl

only_there : (a b : Bool) (h x : ℕ) → cond (a && b) (cond a h 0) x ≡ cond (a && b) h x
only_there true b h x = refl
only_there false b h x = refl

or_assoc : (a b c : Bool) → ((a || b) || c) ≡ (a || (b || c))
or_assoc true b c = refl
or_assoc false b c = refl

module _ (n : ℕ) (test : ℕ → Bool) (at : ℕ → ℕ) (f : Figures) (d : ℕ) where
  pub readings_none : f ≡ taken_in f d (record_to n 0 test at)
  unfolding taken_in
  readings_none =
      let p : f.peak ≡ max f.peak (largest_over at 0) = omega (arith, largest_none at) in
      let s : f.sum ≡ f.sum + sum_over at 0 = omega (arith, sum_none at) in
      let none = any_none test in
      let beats : Bool = not f.any || ltb f.high (largest_in test at 0) in
      let keep : (y x : ℕ) → x ≡ cond (any_over test 0 && beats) y x = λ y x. sym (ap (λ (b : Bool). cond (b && beats) y x) none) in
      λ i. record {
        peak = p i;
        sum = s i;
        any = sym (ap (λ (b : Bool). f.any || b) none ∙ or-false f.any) i;
        high = keep (largest_in test at 0) f.high i;
        day = keep d f.day i;
        quarter = keep (quarter_in n (place_in test at 0)) f.quarter i;
      }

  -- one reading more
  module _ (p : ℕ) where
    -- a figure of the first p + 1, by the figure h of the first p and the figure o of the reading
    one_more :
        (x h o : ℕ)
        → let fa = f.any in
        let a = any_over test p in
        let now = a && (not fa || ltb f.high (largest_in test at p)) in
        cond (test p && (not (fa || a) || ltb (cond now (largest_in test at p) f.high) (at p))) o (cond now h x)
        ≡ cond (any_over test (p + 1) && (not fa || ltb f.high (largest_in test at (p + 1)))) (cond (newer test at p) o h) x
    one_more x h o =
        chosen f.any (any_over test p) (test p) f.high (largest_in test at p) (at p) x h o
        ∙ (λ i. cond (sym (any_more test p) i && (not f.any || ltb f.high (value_more test at p i))) (cond (newer test at p) o h) x)

    pub readings_more : taken_in (taken_in f d (record_to n p test at)) d (one_reading (quarter_in n p) (test p) (at p))
        ≡ taken_in f d (record_to n (p + 1) test at)
    unfolding taken_in
    readings_more =
        let next : ℕ → ℕ → ℕ = λ y x. cond (any_over test (p + 1) && (not f.any || ltb f.high (largest_in test at (p + 1)))) y x in
        let quarter : ℕ → ℕ = quarter_in n in
        let first : Bool = better (taken_in f d (record_to n p test at)) (one_reading (quarter p) (test p) (at p)) in
        let peak : max (max f.peak (largest_over at p)) (at p) ≡ max f.peak (largest_over at (p + 1)) = omega (arith, largest_more at p) in
        let sum : f.sum + sum_over at p + at p ≡ f.sum + sum_over at (p + 1) = omega (arith, sum_more at p) in
        λ i. record {
          peak = peak i;
          sum = sum i;
          any = (or_assoc f.any (any_over test p) (test p) ∙ ap (λ (b : Bool). f.any || b) (sym (any_more test p))) i;
          high = (one_more f.high (largest_in test at p) (at p) ∙ ap (λ (y : ℕ). next y f.high) (value_more test at p)) i;
          day = (one_more f.day d d ∙ ap (λ (y : ℕ). next y f.day) (same (newer test at p) d)) i;
          quarter =
              (ap (cond first (quarter p)) (sym (only_there (any_over test p) _ (quarter (place_in test at p)) f.quarter))
              ∙ one_more f.quarter (figure_of test at p quarter p) (quarter p)
              ∙ ap (λ (y : ℕ). next y f.quarter) (place_more test at p quarter)
              ∙ only_there (any_over test (p + 1)) _ (quarter (place_in test at (p + 1))) f.quarter) i;
        }
