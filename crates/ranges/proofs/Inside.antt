-- Laws of `number_if`, `largest_in` and `place_in`: the largest value at the places that pass a test, and the first of
-- them that has it. The test and the function are the first explicit arguments.
-- Assumes nothing.
use mathlib.Core.Path.{◌≡◌, refl, sym, ap, ap₂, ◌∙◌}
use mathlib.Core.Bool.{Bool, true, false, not, ◌&&◌, ◌||◌}
use Prim.Native.Nat.{ℕ, ◌+◌, ◌≤◌, ◌<◌, max}
use native.Mathlib.Decide.{dec_lt}
use native.Mathlib.Omega.{arith}
use borrow.Author.Tests.{lt-ltb, le-ltb, ltb-true, eq-eqb, ne_eqb, eqb-true}
use lib.Dec.{ltb, eqb}
use Rattle.ranges.specs.Ranges.{any_over, first_over, number_if, largest_in, place_in}
use Rattle.ranges.proofs.Bools.{both, pair, clash}
use Rattle.ranges.proofs.Largest.{Reached, at, largest_none, largest_more, largest_above, largest_le, largest_reached, largest_cong, largest_mono}
use Rattle.ranges.proofs.Tests.{all_passed, any_at}
use Rattle.ranges.proofs.First.{first_at, first_le, first_below, first_holds, first_cong, any_first}

number_if_yes : {b : Bool} (v : ℕ) → b ≡ true → number_if b v ≡ v
number_if_yes v e = rw e

number_if_no : {b : Bool} (v : ℕ) → b ≡ false → number_if b v ≡ 0
number_if_no v e = rw e

number_if_cong : (b : Bool) (x y : ℕ) → (b ≡ true → x ≡ y) → number_if b x ≡ number_if b y
number_if_cong true x y h = h refl
number_if_cong false x y h = refl

pub number_if_none : (b : Bool) → number_if b 0 ≡ 0
number_if_none true = refl
number_if_none false = refl

pub number_if_low : (b : Bool) {v w : ℕ} → (b ≡ true → v ≤ w) → number_if b v ≤ w
number_if_low true h = h refl
number_if_low false h = omega arith

number_if_mono : (b : Bool) (x y : ℕ) → (b ≡ true → x ≤ y) → number_if b x ≤ number_if b y
number_if_mono true x y h = h refl
number_if_mono false x y h = omega arith

-- a place that passes the test and has the value
and_cong : (b : Bool) (x y h k : ℕ) → (b ≡ true → x ≡ y) → h ≡ k → (b && eqb x h) ≡ (b && eqb y k)
and_cong true x y h k e f = ap₂ eqb (e refl) f
and_cong false x y h k e f = refl

module _ (p : ℕ → Bool) (f : ℕ → ℕ) where
  pub in_none : largest_in p f 0 ≡ 0
  unfolding largest_in
  in_none = largest_none (λ k. number_if (p k) (f k))

  pub in_more : (n : ℕ) → largest_in p f (n + 1) ≡ max (largest_in p f n) (number_if (p n) (f n))
  unfolding largest_in
  in_more n = largest_more (λ k. number_if (p k) (f k)) n

  -- no place passes
  pub in_nowhere : (n : ℕ) → any_over p n ≡ false → largest_in p f n ≡ 0
  unfolding largest_in
  in_nowhere n e =
      omega (arith, largest_le (λ k. number_if (p k) (f k)) n 0 (λ k l. omega (arith, number_if_no (f k) ((all_passed p n e).fails k l))))

  -- no value at a place that passes is above the largest
  pub in_above : (n k : ℕ) → k < n → p k ≡ true → f k ≤ largest_in p f n
  unfolding largest_in
  in_above n k l t = omega (arith, largest_above (λ i. number_if (p i) (f i)) n k l, number_if_yes (f k) t)

  -- a bound of the values at these places bounds the largest
  pub in_le : (n b : ℕ) → ((k : ℕ) → k < n → p k ≡ true → f k ≤ b) → largest_in p f n ≤ b
  unfolding largest_in
  in_le n b h = largest_le (λ k. number_if (p k) (f k)) n b (λ k l. go k l (p k) refl)
    where
      go : (k : ℕ) → k < n → (t : Bool) → p k ≡ t → number_if (p k) (f k) ≤ b
      go k l true t = omega (arith, number_if_yes (f k) t, h k l t)
      go k l false t = omega (arith, number_if_no (f k) t)

  module _ (n : ℕ) where
    abbrev there : ℕ → Bool
    there k = p k && eqb (f k) (largest_in p f n)

    -- where a place passes, there is a first one that has the largest value
    pub place_in_law : any_over p n ≡ true → place_in p f n < n
    unfolding place_in largest_in
    place_in_law s = go (dec_lt 0 (largest_in p f n))
      where
        hit : (k : ℕ) → k < n → p k ≡ true → f k ≡ largest_in p f n → place_in p f n < n
        hit k l t e = ltb-true _ _ (sym (any_first there n) ∙ any_at there n k l (rw t (eq-eqb _ _ e)))

        some : first_over p n < n
        some = ltb-true _ _ (sym (any_first p n) ∙ s)

        up : 0 < largest_in p f n → Reached (λ k. number_if (p k) (f k)) n → place_in p f n < n
        up b (at k l e) = inside (p k) refl
          where
            inside : (t : Bool) → p k ≡ t → place_in p f n < n
            inside true t = hit k l t (sym (number_if_yes (f k) t) ∙ e)
            inside false t = absurd (omega (arith, number_if_no (f k) t))

        go : Dec (0 < largest_in p f n) → place_in p f n < n
        go (no z) =
            let k : ℕ = first_over p n in
            let t = first_holds p n some in
            hit k some t (omega (arith, in_above n k some t))
        go (yes b) = up b (largest_reached (λ k. number_if (p k) (f k)) n (omega (arith, some)))

    -- it passes, it has the value, and none before it does both
    pub place_passes : any_over p n ≡ true → p (place_in p f n) ≡ true
    unfolding place_in
    place_passes s = (both _ _ (first_holds there n (place_in_law s))).0

    pub place_has : any_over p n ≡ true → f (place_in p f n) ≡ largest_in p f n
    unfolding place_in
    place_has s = eqb-true _ _ (both (p (place_in p f n)) _ (first_holds there n (place_in_law s))).1

    pub place_first : (k : ℕ) → k < place_in p f n → p k ≡ true → f k < largest_in p f n
    unfolding place_in
    place_first k l t =
        let m : k < n = omega (arith, first_le there n) in
        let other : f k ≡ largest_in p f n → ⊥ = λ e. clash (pair t (eq-eqb _ _ e)) (first_below there n k l) in
        go (dec_lt (f k) (largest_in p f n)) (in_above n k m t) other
      where
        go : Dec (f k < largest_in p f n) → f k ≤ largest_in p f n → (f k ≡ largest_in p f n → ⊥) → f k < largest_in p f n
        go (yes h) b o = h
        go (no h) b o = absurd (o (omega arith))

-- the same places, and the same values there
module _ (p q : ℕ → Bool) (f g : ℕ → ℕ) (n : ℕ) (same : (k : ℕ) → k < n → p k ≡ q k) (equal : (k : ℕ) → k < n → q k ≡ true → f k ≡ g k) where
  pub in_cong : largest_in p f n ≡ largest_in q g n
  unfolding largest_in
  in_cong = largest_cong _ _ n (λ k l. rw (same k l) (number_if_cong (q k) (f k) (g k) (equal k l)))

  pub place_cong : place_in p f n ≡ place_in q g n
  unfolding place_in
  place_cong = first_cong _ _ n (λ k l. rw (same k l) (and_cong (q k) (f k) (g k) _ _ (equal k l) in_cong))

-- no value at these places is higher
pub in_mono : (p : ℕ → Bool) (f g : ℕ → ℕ) (n : ℕ) → ((k : ℕ) → k < n → p k ≡ true → f k ≤ g k) → largest_in p f n ≤ largest_in p g n
unfolding largest_in
in_mono p f g n h = largest_mono _ _ n (λ k l. number_if_mono (p k) (f k) (g k) (h k l))

-- one place more: the test that tells whether it is the first place of the largest value, and what follows
abbrev pub newer : (ℕ → Bool) → (ℕ → ℕ) → ℕ → Bool
newer p f n = p n && (not (any_over p n) || ltb (largest_in p f n) (f n))

-- the largest value and its place after one place more
pub record Next (p : ℕ → Bool) (f : ℕ → ℕ) (n value place : ℕ) : Type 0 where
  pub value_is : largest_in p f (n + 1) ≡ value
  pub place_is : place_in p f (n + 1) ≡ place

pub data Placed (p : ℕ → Bool) (f : ℕ → ℕ) (n : ℕ) : Type 0 where
  nowhere : any_over p n ≡ false → p n ≡ false → largest_in p f (n + 1) ≡ largest_in p f n → Placed p f n
  stays : any_over p n ≡ true → newer p f n ≡ false → Next p f n (largest_in p f n) (place_in p f n) → Placed p f n
  moves : p n ≡ true → newer p f n ≡ true → Next p f n (f n) n → Placed p f n

module _ (p : ℕ → Bool) (f : ℕ → ℕ) (n : ℕ) where
  next_stays : any_over p n ≡ true → number_if (p n) (f n) ≤ largest_in p f n → Next p f n (largest_in p f n) (place_in p f n)
  unfolding place_in
  next_stays s h =
      let e : largest_in p f (n + 1) ≡ largest_in p f n = omega (arith, in_more p f n) in
      let l = place_in_law p f n s in
      record {
        value_is = e;
        place_is =
            ap (λ (x : ℕ). first_over (λ k. p k && eqb (f k) x) (n + 1)) e
            ∙ first_at (there p f n) (n + 1) (place_in p f n) (omega arith) (first_holds (there p f n) n l) (first_below (there p f n) n);
      }

  next_moves : p n ≡ true → ((k : ℕ) → k < n → p k ≡ true → f k < f n) → Next p f n (f n) n
  unfolding place_in
  next_moves t h =
      let e : largest_in p f (n + 1) ≡ f n = omega (arith, in_more p f n, in_le p f n (f n) (λ k l u. omega (arith, h k l u)), number_if_yes (f n) t) in
      record {
        value_is = e;
        place_is =
            ap (λ (x : ℕ). first_over (λ k. p k && eqb (f k) x) (n + 1)) e
            ∙ first_at (λ k. p k && eqb (f k) (f n)) (n + 1) n (omega arith) (rw t (eq-eqb (f n) (f n) refl)) (λ j l. miss j l (p j) refl);
      }
    where
      miss : (j : ℕ) → j < n → (b : Bool) → p j ≡ b → (p j && eqb (f j) (f n)) ≡ false
      miss j l true b = rw b (ne_eqb (f j) (f n) (λ e. omega (arith, h j l b)))
      miss j l false b = rw b

  pub placed : Placed p f n
  placed = go (any_over p n) refl (p n) refl (dec_lt (largest_in p f n) (f n))
    where
      go : (s : Bool) → any_over p n ≡ s → (t : Bool) → p n ≡ t → Dec (largest_in p f n < f n) → Placed p f n
      go false s false t d = nowhere s t (omega (arith, in_more p f n, number_if_no (f n) t))
      go true s false t d = stays s (rw t) (next_stays s (rw t (omega arith)))
      go false s true t d = moves t (rw (t, s)) (next_moves t (λ k l e. absurd (clash e ((all_passed p n s).fails k l))))
      go true s true t (yes l) = moves t (rw (t, s, lt-ltb _ _ l)) (next_moves t (λ k m e. omega (arith, in_above p f n k m e)))
      go true s true t (no l) =
          stays s (rw (t, s, le-ltb (largest_in p f n) (f n) (omega arith))) (next_stays s (rw t (omega arith)))
