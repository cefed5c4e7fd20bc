-- Laws of `in_base`: a number is its digits, and its digits are the number's, in every base. The function is the first
-- explicit argument after the base.
-- Assumes nothing.
use mathlib.Core.Path.{◌≡◌, sym, ap, ◌∙◌}
use Prim.Native.Nat.{ℕ, zero, suc, ◌+◌, ◌-◌, ◌*◌, ◌/◌, ◌^◌, ◌≤◌, ◌<◌}
use native.Mathlib.Nat.{add-zero, add-suc, mul-suc, mul-le-mul_left, mul-add-mod_self_left, add-mul-div_left, div-add-mod, div-div-eq-div-mul, div-eq_of_lt, div-one, mod-eq_of_lt, pow-zero, pow-suc, pow-succ'}
use native.Mathlib.Omega.{arith}
use Rattle.ranges.specs.Ranges.{in_base, digit_of}
use Rattle.ranges.proofs.Joined.{joined_none, joined_suc, joined_more, joined_cong}

module _ (base : ℕ) (f : ℕ → ℕ) where
  pub base_none : in_base base f 0 ≡ 0
  unfolding in_base
  base_none = joined_none _ 0 f

  pub base_suc : (n : ℕ) → in_base base f (suc n) ≡ base * in_base base f n + f n
  unfolding in_base
  base_suc n = joined_suc _ 0 f n

  pub base_more : (n : ℕ) → in_base base f (n + 1) ≡ base * in_base base f n + f n
  unfolding in_base
  base_more n = joined_more _ 0 f n

pub base_cong : (base : ℕ) (f g : ℕ → ℕ) (n : ℕ) → ((k : ℕ) → k < n → f k ≡ g k) → in_base base f n ≡ in_base base g n
unfolding in_base
base_cong base f g n h = joined_cong _ 0 f g n h

module _ (base : ℕ) (some : 0 < base) where
  -- one digit less
  off : (a : ℕ) {d : ℕ} → d < base → (base * a + d) / base ≡ a
  off a {d} h =
      let e : base * a + d ≡ d + base * a = omega arith in
      ap (λ (x : ℕ). x / base) e ∙ add-mul-div_left d a some ∙ omega (arith, div-eq_of_lt h)

  module _ (f : ℕ → ℕ) where
    -- n digits stay below the n-th power
    pub base_lt : (n : ℕ) → ((k : ℕ) → k < n → f k < base) → in_base base f n < base ^ n
    base_lt zero h = omega (arith, base_none base f, pow-zero base)
    base_lt (suc n) h =
        let a = in_base base f n in
        let b : base * suc a ≤ base * base ^ n = mul-le-mul_left base (base_lt n (λ k l. h k (omega arith))) in
        omega (arith, base_suc base f n, pow-succ' base n, mul-suc base a, h n (omega arith))

    -- the first n of n + m digits
    upper : (n m : ℕ) → ((k : ℕ) → k < n + m → f k < base) → in_base base f (n + m) / base ^ m ≡ in_base base f n
    upper n zero h = rw (add-zero, pow-zero) (div-one _)
    upper n (suc m) h =
        rw (add-suc, base_suc, pow-succ')
        (sym (div-div-eq-div-mul _ base (base ^ m)) ∙ ap (λ (x : ℕ). x / base ^ m) (off _ (h (n + m) (omega arith))) ∙ upper n m (λ k l. h k (omega arith)))

    -- a number's digits are the ones it was made of
    pub base_digit : (n k : ℕ) → k < n → ((j : ℕ) → j < n → f j < base) → digit_of base n (in_base base f n) k ≡ f k
    base_digit n k l h =
        let e : k + 1 + (n - 1 - k) ≡ n = omega arith in
        let u : in_base base f n / base ^ (n - 1 - k) ≡ in_base base f (k + 1) = rw e at (upper (k + 1) (n - 1 - k) (λ j b. h j (omega arith))) in
        rw (u, base_more) (mul-add-mod_self_left base _ (f k) ∙ mod-eq_of_lt (h k l))

  module _ (n x : ℕ) (h : x < base ^ n) where
    -- its first i digits are its upper part
    first : (i : ℕ) → i ≤ n → in_base base (digit_of base n x) i ≡ x / base ^ (n - i)
    first zero l =
        let e : n - 0 ≡ n = omega arith in
        base_none base (digit_of base n x) ∙ rw e (sym (div-eq_of_lt h))
    first (suc i) l =
        let e : n - i ≡ suc (n - 1 - i) = omega arith in
        let g : n - suc i ≡ n - 1 - i = omega arith in
        let y = x / base ^ (n - 1 - i) in
        let d : x / base ^ (n - i) ≡ y / base = rw (e, pow-suc) (sym (div-div-eq-div-mul x (base ^ (n - 1 - i)) base)) in
        rw (base_suc, first i (omega arith), d, g) (div-add-mod y base)

    -- a number is its digits
    pub base_back : in_base base (digit_of base n x) n ≡ x
    base_back =
        let e : n - n ≡ 0 = omega arith in
        first n (omega arith) ∙ rw (e, pow-zero) (div-one x)
