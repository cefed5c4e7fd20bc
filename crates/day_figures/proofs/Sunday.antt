-- Laws of a day that is taken in reading by reading, by where H stands in it: behind the day's last position as long as
-- it stands in a day before.
-- Assumes nothing.
use mathlib.Core.Path.{◌≡◌, refl, sym, ap, ◌∙◌}
use mathlib.Core.Bool.{Bool, true, false, cond, not, ◌&&◌, ◌||◌, or-true, or-false}
use mathlib.Core.List.{List}
use Prim.Native.Nat.{ℕ, ◌+◌, ◌<◌, max}
use native.Mathlib.Omega.{arith}
use borrow.Author.Tests.{lt-ltb}
use lib.Dec.{ltb}
use lib.ListN.{length}
use Rattle.ranges.specs.Ranges.{largest_over, sum_over}
use Rattle.ranges.proofs.Largest.{largest_none, largest_more}
use Rattle.ranges.proofs.Sums.{sum_none, sum_more}
use Rattle.readings.specs.Runs.{quarter_in}
use Rattle.tariff.specs.declared.Figures.{Figures}
use Rattle.figures.specs.Figures.{taken_in}
use Rattle.figures.proofs.Readings.{one_reading}
use Rattle.day_figures.specs.Day.{alone}
use Rattle.day_figures.specs.Passes.{plainly, high_at}
use Rattle.day_figures.proofs.OneDay.{reading_old, reading_new, high_here}

-- the figures with the highest of the first p readings and their sum, H as it was
abbrev pub plain_to : Figures → List ℕ → ℕ → Figures
plain_to f day p = plainly f (record { peak = largest_over (alone day) p; sum = sum_over (alone day) p })

pub plain_none : (f : Figures) (day : List ℕ) → plain_to f day 0 ≡ f
plain_none f day =
    let peak : max f.peak (largest_over (alone day) 0) ≡ f.peak = omega (arith, largest_none (alone day)) in
    let sum : f.sum + sum_over (alone day) 0 ≡ f.sum = omega (arith, sum_none (alone day)) in
    λ i. record { peak = peak i; sum = sum i; any = f.any; high = f.high; day = f.day; quarter = f.quarter }

-- Position p comes to those before it, after which there is an H or none, and which; it counts or not. H then stands
-- there, or where it stood.
module _ (day : List ℕ) (at p : ℕ) (counts any : Bool) (high : ℕ) (l : p < length day) where
  abbrev pub moves : Bool
  moves = counts && (not any || ltb high (alone day p))

  abbrev pub place : ℕ
  place = cond moves p at

  pub any_next : (b : Bool) → any ≡ (b || ltb at (length day)) → (any || counts) ≡ (b || ltb place (length day))
  any_next b e = go counts any e (ltb high (alone day p))
    where
      there : true ≡ (b || ltb p (length day))
      there = sym (or-true b) ∙ ap (λ (x : Bool). b || x) (sym (lt-ltb p (length day) l))

      go : (c a : Bool) → a ≡ (b || ltb at (length day)) → (h : Bool) → (a || c) ≡ (b || ltb (cond (c && (not a || h)) p at) (length day))
      go false a e h = or-false a ∙ e
      go true false e h = there
      go true true e false = e
      go true true e true = there

  pub high_next :
      (h : ℕ)
      → high ≡ cond (ltb at (length day)) (alone day at) h
      → cond moves (alone day p) high ≡ cond (ltb place (length day)) (alone day place) h
  high_next h e = go moves
    where
      go : (m : Bool) → cond m (alone day p) high ≡ cond (ltb (cond m p at) (length day)) (alone day (cond m p at)) h
      go false = e
      go true = ap (λ (b : Bool). cond b (alone day p) h) (sym (lt-ltb p (length day) l))

  pub taken_next :
      (f : Figures) (d : ℕ)
      → (high_at f d day at).any ≡ any
      → (high_at f d day at).high ≡ high
      → high_at (plain_to f day (p + 1)) d day place
      ≡ taken_in (high_at (plain_to f day p) d day at) (d + 1) (one_reading (quarter_in (length day) p) counts (alone day p))
  taken_next f d a h = (λ i. high_at (with (peak i) (sum i)) d day place) ∙ go moves refl
    where
      with : ℕ → ℕ → Figures
      with m s = record { peak = m; sum = s; any = f.any; high = f.high; day = f.day; quarter = f.quarter }

      v : ℕ
      v = alone day p

      peak : max f.peak (largest_over (alone day) (p + 1)) ≡ max (max f.peak (largest_over (alone day) p)) v
      peak = omega (arith, largest_more (alone day) p)

      sum : f.sum + sum_over (alone day) (p + 1) ≡ f.sum + sum_over (alone day) p + v
      sum = omega (arith, sum_more (alone day) p)

      next : Figures
      next = with (max (plain_to f day p).peak v) ((plain_to f day p).sum + v)

      before : Figures
      before = high_at (plain_to f day p) d day at

      same : (counts && (not before.any || ltb before.high v)) ≡ moves
      same = λ i. counts && (not (a i) || ltb (h i) v)

      go : (m : Bool) → moves ≡ m → high_at next d day (cond m p at) ≡ taken_in before (d + 1) (one_reading (quarter_in (length day) p) counts v)
      go true e = sym (high_here next d day p l refl) ∙ reading_new before (d + 1) (quarter_in (length day) p) counts v refl (same ∙ e)
      go false e = reading_old before (d + 1) (quarter_in (length day) p) counts v refl (same ∙ e)
