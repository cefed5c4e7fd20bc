-- Laws of one day: what the masks of a row leave of its readings, and the cases of taking it in.
-- Assumes nothing.
use mathlib.Core.Path.{◌≡◌, refl, sym, ap, ◌∙◌}
use mathlib.Core.Bool.{Bool, true, false, cond, not, ◌&&◌, ◌||◌, and-false, or-true, or-false}
use mathlib.Core.Logic.{⊎_elim}
use mathlib.Core.List.{List}
use Prim.Native.Nat.{ℕ, ◌+◌, ◌≤◌, ◌<◌, max}
use native.Mathlib.Nat.{mod-eq_of_lt}
use native.Mathlib.Decide.{dec_lt}
use native.Mathlib.Omega.{arith}
use borrow.Author.Tests.{lt-ltb, le-ltb, eqb-true}
use lib.Bits.{bit_and, and_mask, and_zero_r}
use lib.Dec.{ltb, eqb}
use lib.ListN.{length, get_or, get_or-eq_default}
use Rattle.ranges.specs.Ranges.{sum_over, any_over, first_over, number_if, largest_in, place_in, table}
use Rattle.ranges.proofs.Bools.{decided, both}
use Rattle.ranges.proofs.Largest.{largest_cong}
use Rattle.ranges.proofs.Tests.{any_at, any_fails, all_passed}
use Rattle.ranges.proofs.First.{first_holds, first_cong}
use Rattle.ranges.proofs.Tables.{get_d_table}
use Rattle.ranges.proofs.Inside.{place_in_law}
use Rattle.answers.specs.Ruling.{day_quarters}
use Rattle.readings.specs.Legal.{highest_of}
use Rattle.readings.specs.Runs.{most_readings, quarter_in}
use Rattle.readings.proofs.Quarters.{quarter_plain, quarter_fits}
use Rattle.tariff.specs.declared.Figures.{Figures}
use Rattle.figures.specs.Figures.{DayRecord, record_of, better, taken_in}
use Rattle.figures.proofs.Readings.{one_reading}
use Rattle.day_figures.specs.declared.Tops.{Tops}
use Rattle.day_figures.specs.Day.{alone, in_row, row_if}
use Rattle.day_figures.specs.Passes.{tops_of, all_ones, masks_of, some_left, masked_high, Sized, plainly, high_at}

-- a mask leaves a reading of 32 bits where the quarter is set, and else nothing
mask_leaves : (b : Bool) (v : ℕ) → v ≤ all_ones → bit_and v (number_if b all_ones) ≡ number_if b v
mask_leaves true v l = and_mask v 32 ∙ mod-eq_of_lt (omega arith)
mask_leaves false v l = and_zero_r v

-- so a day has at most 100 readings
pub sized_most : (day : List ℕ) → Sized day → length day ≤ most_readings
sized_most day s = go (dec_lt day_quarters (length day))
  where
    go : Dec (day_quarters < length day) → length day ≤ most_readings
    go (yes l) = omega (arith, s l)
    go (no l) = omega arith

-- on a usual day each position stands for the quarter of its number
pub usual_order : (day : List ℕ) → length day ≡ day_quarters → (p : ℕ) → quarter_in (length day) p ≡ p
usual_order day l p = quarter_plain (length day) p (λ e. omega (arith, e, l)) (λ e. omega (arith, e, l))

module _ (row : List Bool) (day : List ℕ) (l : length day ≡ day_quarters) where
  masked_is : (p v : ℕ) → p < length day → v ≤ all_ones
      → bit_and v (get_or (masks_of row) (quarter_in (length day) p) 0) ≡ number_if (in_row (length day) row p) v
  unfolding masks_of
  masked_is p v m s =
      let q = quarter_in (length day) p in
      let small : q < day_quarters = omega (arith, usual_order day l p) in
      ap (bit_and v) (get_d_table (λ k. number_if (get_or row k false) all_ones) day_quarters q 0 small)
      ∙ mask_leaves (get_or row q false) v s

  -- what the masks leave of its readings is what counts
  pub masked_in :
      {masks : List ℕ}
      → ((k : ℕ) → alone day k ≤ all_ones)
      → masks ≡ masks_of row
      → masked_high masks day ≡ largest_in (in_row (length day) row) (alone day) (length day)
  unfolding masked_high largest_in
  masked_in s m =
      ap (λ (ms : List ℕ). masked_high ms day) m
      ∙ largest_cong _ _ (length day) (λ k b. masked_is k (alone day k) b (s k))

  -- and so is what the search finds
  pub first_in :
      (high : ℕ)
      → first_over (λ p. get_or row p false && eqb (alone day p) high) (length day)
      ≡ first_over (λ p. in_row (length day) row p && eqb (alone day p) high) (length day)
  first_in high =
      first_cong _ _ (length day) (λ p m. ap (λ (q : ℕ). get_or row q false && eqb (alone day p) high) (sym (usual_order day l p)))

-- a row counts where its flag is set
pub flag_in : (flag : Bool) (row : List Bool) (q : ℕ) → (flag && get_or row q false) ≡ get_or (row_if flag row) q false
flag_in true row q = refl
flag_in false row q = refl

-- masks that leave nothing are those of a row without a set quarter
unset : (row : List Bool) (q : ℕ) → some_left (masks_of row) ≡ false → q < day_quarters → get_or row q false ≡ false
unfolding masks_of some_left
unset row q h l =
    let mask : ℕ → ℕ = λ k. number_if (get_or row k false) all_ones in
    let none = (all_passed (λ k. ltb 0 (get_or (table mask day_quarters) k 0)) day_quarters h).fails q l in
    go (get_or row q false) (rw (get_d_table mask day_quarters q 0 l) at none)
  where
    go : (b : Bool) → ltb 0 (number_if b all_ones) ≡ false → b ≡ false
    go false e = refl
    go true e = e

-- so no position counts, nor where the flag is not set
pub counts_none :
    (n : ℕ) (row : List Bool) (flag : Bool)
    → (day_quarters < n → n ≡ most_readings)
    → (flag && some_left (masks_of row)) ≡ false
    → any_over (in_row n (row_if flag row)) n ≡ false
counts_none n row false sized h = any_fails _ _ (λ p l. refl)
counts_none n row true sized h = any_fails _ _ (λ p l. unset row (quarter_in n p) h (quarter_fits n p sized l))

-- nor by a row without quarters
pub counts_empty : (n : ℕ) (row : List Bool) → length row ≡ 0 → any_over (in_row n row) n ≡ false
counts_empty n row e = any_fails _ _ (λ p l. get_or-eq_default row false (omega arith))

-- a day's tops, figure by figure
pub tops_are :
    (day : List ℕ) {peak sum : ℕ}
    → peak ≡ highest_of day
    → sum ≡ sum_over (alone day) (length day)
    → record { peak = peak; sum = sum } ≡ tops_of day
unfolding tops_of
tops_are day a b = λ i. record { peak = a i; sum = b i }

-- where H stands after a day
module _ (f : Figures) (d : ℕ) (day : List ℕ) (at : ℕ) where
  -- H stands in the day
  pub high_here :
      {q : ℕ}
      → at < length day
      → q ≡ quarter_in (length day) at
      → record { peak = f.peak; sum = f.sum; any = true; high = alone day at; day = d + 1; quarter = q } ≡ high_at f d day at
  high_here l e =
      let here = sym (lt-ltb at (length day) l) in
      λ i. record {
        peak = f.peak;
        sum = f.sum;
        any = (sym (or-true f.any) ∙ ap (λ (b : Bool). f.any || b) here) i;
        high = ap (λ (b : Bool). cond b (alone day at) f.high) here i;
        day = ap (λ (b : Bool). cond b (d + 1) f.day) here i;
        quarter = (e ∙ ap (λ (b : Bool). cond b (quarter_in (length day) at) f.quarter) here) i;
      }

  -- it stands in a day before
  pub high_before : length day ≤ at → f ≡ high_at f d day at
  high_before l =
      let here = sym (le-ltb at (length day) l) in
      λ i. record {
        peak = f.peak;
        sum = f.sum;
        any = (sym (or-false f.any) ∙ ap (λ (b : Bool). f.any || b) here) i;
        high = ap (λ (b : Bool). cond b (alone day at) f.high) here i;
        day = ap (λ (b : Bool). cond b (d + 1) f.day) here i;
        quarter = ap (λ (b : Bool). cond b (quarter_in (length day) at) f.quarter) here i;
      }

-- taking a day's record in
module _ (f : Figures) (d : ℕ) (r : DayRecord) where
  -- its in-window peak does not count
  taken_plain :
      (t : Tops)
      → t.peak ≡ r.peak
      → t.sum ≡ r.sum
      → better f r ≡ false
      → (f.any || r.any) ≡ f.any
      → plainly f t ≡ taken_in f d r
  unfolding taken_in
  taken_plain t a b n e =
      λ i. record {
        peak = max f.peak (a i);
        sum = f.sum + b i;
        any = sym e i;
        high = ap (λ (x : Bool). cond x r.high f.high) (sym n) i;
        day = ap (λ (x : Bool). cond x d f.day) (sym n) i;
        quarter = ap (λ (x : Bool). cond x r.quarter f.quarter) (sym n) i;
      }

  -- it does
  taken_new :
      {p s h q : ℕ}
      → p ≡ max f.peak r.peak
      → s ≡ f.sum + r.sum
      → h ≡ r.high
      → q ≡ r.quarter
      → r.any ≡ true
      → better f r ≡ true
      → record { peak = p; sum = s; any = true; high = h; day = d; quarter = q } ≡ taken_in f d r
  unfolding taken_in
  taken_new a b c q t n =
      λ i. record {
        peak = a i;
        sum = b i;
        any = sym (ap (λ (x : Bool). f.any || x) t ∙ or-true f.any) i;
        high = (c ∙ ap (λ (x : Bool). cond x r.high f.high) (sym n)) i;
        day = ap (λ (x : Bool). cond x d f.day) (sym n) i;
        quarter = (q ∙ ap (λ (x : Bool). cond x r.quarter f.quarter) (sym n)) i;
      }

-- one reading that counts or not: it does not become H, or it does
module _ (f : Figures) (d q : ℕ) (counts : Bool) (v : ℕ) {next : Figures} (e : next ≡ plainly f (record { peak = v; sum = v })) where
  pub reading_old : (counts && (not f.any || ltb f.high v)) ≡ false → next ≡ taken_in f d (one_reading q counts v)
  reading_old n = e ∙ taken_plain f d (one_reading q counts v) _ refl refl n (stays f.any counts n)
    where
      stays : (a b : Bool) → (b && (not a || ltb f.high v)) ≡ false → (a || b) ≡ a
      stays true b h = refl
      stays false false h = refl
      stays false true h = h

  pub reading_new :
      (counts && (not f.any || ltb f.high v)) ≡ true
      → record { peak = next.peak; sum = next.sum; any = true; high = v; day = d; quarter = q } ≡ taken_in f d (one_reading q counts v)
  reading_new n =
      taken_new f d (one_reading q counts v)
      (ap (λ (x : Figures). x.peak) e) (ap (λ (x : Figures). x.sum) e) refl refl (both counts _ n).0 n

-- a day's tops, and its record by the positions that pass the test
module _ (test : ℕ → Bool) (d : ℕ) (day : List ℕ) (f : Figures) {t : Tops} (e : t ≡ tops_of day) where
  abbrev today : DayRecord
  today = record_of (length day) test (alone day)

  peak_of_law : t.peak ≡ today.peak
  unfolding tops_of highest_of
  peak_of_law = ap (λ (x : Tops). x.peak) e

  sum_of_law : t.sum ≡ today.sum
  unfolding tops_of
  sum_of_law = ap (λ (x : Tops). x.sum) e

  -- it has no in-window quarter
  pub taken_none : any_over test (length day) ≡ false → plainly f t ≡ taken_in f (d + 1) today
  taken_none n = taken_plain f (d + 1) today t peak_of_law sum_of_law (rw n) (rw n (or-false f.any))

  module _ {high : ℕ} (high-of : high ≡ largest_in test (alone day) (length day)) where
    -- its in-window peak, if it has one, is not above the year's
    pub taken_old : f.any ≡ true → high ≤ f.high → plainly f t ≡ taken_in f (d + 1) today
    taken_old a h =
        taken_plain f (d + 1) today t peak_of_law sum_of_law
        (rw (a, le-ltb f.high today.high (omega (arith, high-of))) (and-false today.any)) (rw a)

    -- the first position that has it
    module _ {p : ℕ} (at : p ≡ first_over (λ k. test k && eqb (alone day k) high) (length day)) where
      place_of : p ≡ place_in test (alone day) (length day)
      unfolding place_in
      place_of = at ∙ ap (λ (h : ℕ). first_over (λ k. test k && eqb (alone day k) h) (length day)) high-of

      hit : p < length day → (test p ≡ true) × (eqb (alone day p) high ≡ true)
      hit m = both (test p) _ (rw (sym at) at (first_holds (λ k. test k && eqb (alone day k) high) (length day) (omega arith)))

      some_in : p < length day → any_over test (length day) ≡ true
      some_in m = any_at test (length day) p m (hit m).0

      -- there is none
      taken_nowhere : length day ≤ p → plainly f t ≡ taken_in f (d + 1) today
      taken_nowhere m =
          taken_none (⊎_elim (λ s. absurd (omega (arith, place_of, place_in_law test (alone day) (length day) s))) (λ n. n) (decided _))

      module _ {next : Figures} (n : next ≡ plainly f t) (h : f.any ≡ true → f.high < high) where
        -- it is the year's first, or higher
        taken_higher :
            p < length day
            → record { peak = next.peak; sum = next.sum; any = true; high = alone day p; day = d + 1; quarter = quarter_in (length day) p }
            ≡ taken_in f (d + 1) today
        taken_higher m =
            taken_new f (d + 1) today
            (ap (λ (x : Figures). x.peak) n ∙ ap (max f.peak) peak_of_law)
            (ap (λ (x : Figures). x.sum) n ∙ ap (◌+◌ f.sum) sum_of_law)
            (eqb-true _ _ (hit m).1 ∙ high-of) (ap (quarter_in (length day)) place_of) (some_in m) (newer f.any refl)
          where
            newer : (b : Bool) → f.any ≡ b → better f today ≡ true
            newer false a = rw (some_in m, a)
            newer true a = rw (some_in m, a, lt-ltb f.high today.high (omega (arith, high-of, h a)))

        -- so H stands there, if there is one
        pub taken_first : high_at next d day p ≡ taken_in f (d + 1) today
        taken_first = go (dec_lt p (length day))
          where
            go : Dec (p < length day) → high_at next d day p ≡ taken_in f (d + 1) today
            go (yes m) = sym (high_here next d day p m refl) ∙ taken_higher m
            go (no m) = sym (high_before next d day p (omega arith)) ∙ n ∙ taken_nowhere (omega arith)
