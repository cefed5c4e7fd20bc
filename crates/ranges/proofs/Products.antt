-- Products that stay small: one of two bounded numbers, and one whose factor is taken apart at a divisor before it is
-- divided.
-- Assumes nothing.
use mathlib.Core.Path.{◌≡◌, sym, ap, ◌∙◌}
use Prim.Native.Nat.{ℕ, ◌+◌, ◌*◌, ◌/◌, ◌%◌, ◌≤◌, ◌<◌}
use native.Mathlib.Nat.{mul-le-mul, add-mul, div-add-mod', mul_assoc, mul_comm, mul-add-div_right}
use native.Mathlib.Omega.{arith}

pub product : (a b : ℕ) {m n : ℕ} → a ≤ m → b ≤ n → a * b ≤ m * n
product a b h k = mul-le-mul h k

-- n taken apart into a multiple of m and the rest: the quotient is the same, and no product of all of n is needed
pub split_at : (n a more m : ℕ) → 0 < m → n / m * a + (more + n % m * a) / m ≡ (more + n * a) / m
split_at n a more m h =
    let whole : n * a ≡ n / m * m * a + n % m * a = ap (λ (k : ℕ). k * a) (sym (div-add-mod' n m)) ∙ add-mul _ _ a in
    let turned : n / m * m * a ≡ n / m * a * m =
    mul_assoc _ _ a ∙ ap (◌*◌ (n / m)) (mul_comm m a) ∙ sym (mul_assoc _ a m) in
    let parts : more + n * a ≡ n / m * a * m + (more + n % m * a) = omega (arith, whole, turned) in
    sym (ap (λ (k : ℕ). k / m) parts ∙ mul-add-div_right h (n / m * a) (more + n % m * a))
