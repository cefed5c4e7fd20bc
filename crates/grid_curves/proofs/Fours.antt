-- Four days of one season are laid over the curves quarter by quarter: what the loop keeps, and that it comes to four
-- days more.
-- Assumes nothing.
use mathlib.Core.Path.{◌≡◌, refl, sym, ap, ◌∙◌}
use mathlib.Core.Bool.{Bool, true, false}
use mathlib.Core.List.{List}
use Prim.Native.Nat.{ℕ, ◌+◌, ◌-◌, ◌*◌, ◌/◌, ◌%◌, ◌≤◌, ◌<◌, max}
use native.Mathlib.Nat.{le_antisymm}
use native.Mathlib.Decide.{dec_lt, ℕ_discrete}
use native.Mathlib.Omega.{arith}
use borrow.Author.Tests.{eq-eqb, ne_eqb, lt-ltb, le-ltb}
use lib.Dec.{eqb, ltb}
use lib.ListN.{length, get_or, set, take, drop, length-set}
use lib.Seq.{get_or-set_same, get_or-set_other, get_or-take, get_or-drop}
use Rattle.ranges.specs.Ranges.{largest_over, number_if, table}
use Rattle.ranges.proofs.Inside.{number_if_none}
use Rattle.ranges.proofs.Largest.{largest_none, largest_more, largest_add, largest_above, largest_le, largest_cong, largest_rest}
use Rattle.ranges.proofs.Tables.{is_table, get_d_table, table_cong}
use Rattle.answers.specs.Ruling.{day_quarters}
use Rattle.periods.specs.Period.{period_season}
use Rattle.readings.specs.declared.Run.TheVariants.{Period}
use Rattle.readings.specs.Runs.{day_len, day_start, quarter_of, reading}
use Rattle.readings.proofs.Runs.{usual_quarter, usual_on}
use Rattle.sheet.specs.Windows.{window_places}
use Rattle.grid_curves.specs.Curves.{in_season, top_of, curve_at, flat_curves}
use Rattle.grid_curves.specs.Four.{four_days, four_top, overlaid}
use Rattle.grid_curves.proofs.Curves.{curves_long}

module _ (s : ℕ) (flat four : List ℕ) where
  -- what the first q quarters bring to place i of the curves
  abbrev brought : ℕ → ℕ → ℕ
  brought q i = number_if (eqb s (i / day_quarters + 1)) (number_if (ltb (i % day_quarters) q) (four_top four (i % day_quarters)))

  -- what the loop keeps
  pub record Over (q : ℕ) (out : List ℕ) : Type 0 where
    pub some : q ≤ day_quarters
    pub long : length out ≡ length flat
    pub each : (i : ℕ) → i < length flat → get_or out i 0 ≡ max (get_or flat i 0) (brought q i)

  pub over_none : Over 0 flat
  over_none =
      record { some = omega arith; long = refl; each = λ i l. simp (le-ltb (i % day_quarters) 0 (omega arith), number_if_none) (omega arith) }

  pub over_all : {q : ℕ} {out : List ℕ} → Over q out → day_quarters ≤ q → out ≡ overlaid s flat four
  unfolding overlaid
  over_all {q} {out} h m =
      is_table _ (length flat) 0 out h.long
      (λ i l. h.each i l ∙ simp (lt-ltb (i % day_quarters) q (omega arith)))

  there : (q i : ℕ) → (i ≡ day_quarters * (s - 1) + q → ⊥) → 1 ≤ s → brought (q + 1) i ≡ brought q i
  there q i n k = go (ℕ_discrete s (i / day_quarters + 1)) (dec_lt (i % day_quarters) q)
    where
      go : Dec (s ≡ i / day_quarters + 1) → Dec (i % day_quarters < q) → brought (q + 1) i ≡ brought q i
      go (no a) b = simp (ne_eqb s (i / day_quarters + 1) a)
      go (yes a) (yes b) = simp (lt-ltb (i % day_quarters) (q + 1) (omega arith), lt-ltb (i % day_quarters) q b)
      go (yes a) (no b) =
          let not-here : i % day_quarters ≡ q → ⊥ = λ (e : i % day_quarters ≡ q). n (omega arith) in
          let above : q + 1 ≤ i % day_quarters = omega arith in
          simp (le-ltb (i % day_quarters) (q + 1) above, le-ltb (i % day_quarters) q (omega arith))

  here : (q i : ℕ) → s ≡ i / day_quarters + 1 → i % day_quarters ≡ q → (brought q i ≡ 0) × (brought (q + 1) i ≡ four_top four q)
  here q i a b = (
    simp (eq-eqb s (i / day_quarters + 1) a, le-ltb (i % day_quarters) q (omega arith)),
    simp (eq-eqb s (i / day_quarters + 1) a, lt-ltb (i % day_quarters) (q + 1) (omega arith)) (ap (four_top four) b),
  )

  pub over_more :
      {q : ℕ} {out : List ℕ}
      → Over q out
      → {at v : ℕ}
      → q < day_quarters
      → 1 ≤ s
      → s ≤ 4
      → at ≡ day_quarters * (s - 1) + q
      → v ≡ max (get_or out at 0) (four_top four q)
      → Over (q + 1) (set out at v)
  over_more {q} {out} h {at} {v} hq k m ea ev =
      record { some = omega arith; long = simp length-set h.long; each = λ i l. go i l (ℕ_discrete i at) }
    where
      go : (i : ℕ) → i < length flat → Dec (i ≡ at) → get_or (set out at v) i 0 ≡ max (get_or flat i 0) (brought (q + 1) i)
      go i l (no n) =
          get_or-set_other out at i v 0 n ∙ h.each i l
          ∙ ap (max (get_or flat i 0)) (sym (there q i (λ e. n (omega arith)) k))
      go i l (yes n) =
          let stored : get_or (set out at v) i 0 ≡ v = rw n (get_or-set_same out at v 0 (omega (arith, h.long))) in
          let same : get_or out at 0 ≡ get_or out i 0 = ap (λ (j : ℕ). get_or out j 0) (sym n) in
          let was = h.each i l in
          let gets = here q i (omega arith) (omega arith) in
          omega (arith, stored, same, was, gets.0, gets.1, ev)

-- a day that has 96 readings has them in the quarters' order, and brings its reading of the quarter
pub top_plain : (y d : ℕ) (f : ℕ → ℕ) (s q : ℕ) → day_len (Period y) d ≡ day_quarters → q < day_quarters → top_of y d f s q ≡ number_if (in_season y d s) (f q)
unfolding top_of
top_plain y d f s q e l =
    ap (number_if (in_season y d s))
    (le_antisymm (largest_le g n (f q) (λ p m. up p (ℕ_discrete (quarter_of (Period y) d p) q))) (omega (arith, down, one)))
  where
    n : ℕ
    n = day_len (Period y) d

    order : (p : ℕ) → p ≡ quarter_of (Period y) d p
    order p = sym (usual_quarter (Period y) d p e)

    g : ℕ → ℕ
    g p = number_if (eqb (quarter_of (Period y) d p) q) (f p)

    up : (p : ℕ) → Dec (quarter_of (Period y) d p ≡ q) → number_if (eqb (quarter_of (Period y) d p) q) (f p) ≤ f q
    up p (yes h) =
        let same : p ≡ q = order p ∙ h in
        simp (eq-eqb _ _ h) (omega (arith, ap f same))
    up p (no h) = simp (ne_eqb _ _ h) (omega arith)

    one : number_if (eqb (quarter_of (Period y) d q) q) (f q) ≡ f q
    one = simp (eq-eqb (quarter_of (Period y) d q) q (sym (order q)))

    down : number_if (eqb (quarter_of (Period y) d q) q) (f q) ≤ largest_over (λ p. number_if (eqb (quarter_of (Period y) d p) q) (f p)) (day_len (Period y) d)
    down = largest_above (λ p. number_if (eqb (quarter_of (Period y) d p) q) (f p)) (day_len (Period y) d) q (omega (arith, e))

max_pairs : (u v w x : ℕ) → max (max u v) (max w x) ≡ max (max (max (max 0 u) v) w) x
max_pairs u v w x =
    let e : max 0 u ≡ u = omega arith in
    rw e (omega arith)

largest_four : (g : ℕ → ℕ) → largest_over g 4 ≡ max (max (max (max 0 (g 0)) (g 1)) (g 2)) (g 3)
largest_four g =
    let one = largest_more g 0 ∙ ap (λ (z : ℕ). max z (g 0)) (largest_none g) in
    let two = largest_more g 1 ∙ ap (λ (z : ℕ). max z (g 1)) one in
    let three = largest_more g 2 ∙ ap (λ (z : ℕ). max z (g 2)) two in
    largest_more g 3 ∙ ap (λ (z : ℕ). max z (g 3)) three

-- the four readings of a quarter, as the code joins them
pub four_top_law :
    (four : List ℕ) (q : ℕ)
    → max (max (get_or four q 0) (get_or four (day_quarters + q) 0))
    (max (get_or four (2 * day_quarters + q) 0) (get_or four (3 * day_quarters + q) 0))
    ≡ four_top four q
unfolding four_top
four_top_law four q =
    let g : ℕ → ℕ = λ k. get_or four (day_quarters * k + q) 0 in
    let at : (k j : ℕ) → day_quarters * k + q ≡ j → g k ≡ get_or four j 0 = λ k j e. ap (λ (i : ℕ). get_or four i 0) e in
    let a = at 0 q (omega arith) in
    let b = at 1 (day_quarters + q) (omega arith) in
    let c = at 2 (2 * day_quarters + q) (omega arith) in
    let d = at 3 (3 * day_quarters + q) (omega arith) in
    (λ i. max (max (sym a i) (sym b i)) (max (sym c i) (sym d i))) ∙ max_pairs (g 0) (g 1) (g 2) (g 3) ∙ sym (largest_four g)

-- a test of all is a test of each
number_if_largest : (b : Bool) (g : ℕ → ℕ) (n : ℕ) → number_if b (largest_over g n) ≡ largest_over (λ k. number_if b (g k)) n
number_if_largest true g n = refl
number_if_largest false g n = sym (largest_none _) ∙ largest_rest (λ k. 0) 0 n (omega arith) (λ k a l. refl)

-- four days of one season more
module _
    (y : ℕ) (xs : List ℕ) (d s : ℕ) {at size : ℕ}
    (ea : at ≡ day_start (Period y) d)
    (es : size ≡ four_days)
    (alike : (k : ℕ) → k < 4 → (period_season y (d + k + 1) ≡ s) × (day_len (Period y) (d + k) ≡ day_quarters))
  where
    abbrev four : List ℕ
    four = take size (drop at xs)

    -- a day of the four brings its reading
    brings :
        (k q t : ℕ)
        → k < 4
        → q < day_quarters
        → top_of y (d + k) (reading (Period y) xs (d + k)) t q ≡ number_if (eqb s t) (get_or four (day_quarters * k + q) 0)
    brings k q t l m =
        let stands : day_start (Period y) (d + k) + q ≡ at + (day_quarters * k + q) =
        omega (arith, usual_on (Period y) d k (λ j h. (alike j (omega arith)).1)) in
        let inside : day_quarters * k + q < size = omega arith in
        top_plain y (d + k) (reading (Period y) xs (d + k)) t q (alike k l).1 m
        ∙ ap (λ (z : ℕ). number_if (eqb z t) (reading (Period y) xs (d + k) q)) (alike k l).0
        ∙ ap (number_if (eqb s t))
        (ap (λ (z : ℕ). get_or xs z 0) stands
        ∙ sym (get_or-take size (drop at xs) (day_quarters * k + q) 0 inside ∙ get_or-drop at xs (day_quarters * k + q) 0))

    four_value : (t q : ℕ) → q < day_quarters → max (curve_at y xs d t q) (number_if (eqb s t) (four_top four q)) ≡ curve_at y xs (d + 4) t q
    unfolding curve_at four_top
    four_value t q m =
        ap (max (largest_over (λ k. top_of y k (reading (Period y) xs k) t q) d))
        (number_if_largest (eqb s t) (λ k. get_or four (day_quarters * k + q) 0) 4 ∙ largest_cong _ _ 4 (λ k l. sym (brings k q t l m)))
        ∙ sym (largest_add (λ k. top_of y k (reading (Period y) xs k) t q) d 4)

    pub four_more : {flat : List ℕ} → flat ≡ flat_curves y xs d → overlaid s flat four ≡ flat_curves y xs (d + 4)
    unfolding overlaid flat_curves
    four_more e =
        ap (table _) (ap length e ∙ curves_long y xs d)
        ∙ table_cong _ _ window_places (λ i l. rw (e, get_d_table) (four_value (i / day_quarters + 1) (i % day_quarters) (omega arith)))
