-- Values over a range: the places 0, 1, .. , n - 1, in this order. Every specification of the project speaks of a range
-- in these words; places count from 0, and n is how many there are. Each definition goes up to the last place, the way
-- a loop goes: one place more is one step more.
use Rattle.std.specs.Prelude.{Bool, true, false, cond, ◌&&◌, ◌||◌, List, [], ◌∷◌, ◌++◌, ℕ, zero, suc, ◌+◌, ◌-◌, ◌*◌, ◌/◌, ◌%◌, ◌^◌, max, ltb, eqb}

-- the start, joined with f 0, then with f 1, .. , last with f (n - 1)
unfoldable pub joined : {A : Type 0} → (A → A → A) → A → (ℕ → A) → ℕ → A
joined join start f zero = start
joined join start f (suc n) = join (joined join start f n) (f n)

-- the largest of f 0, .. , f (n - 1); 0 where n is 0
unfoldable pub largest_over : (ℕ → ℕ) → ℕ → ℕ
largest_over f n = joined max 0 f n

-- f 0 + .. + f (n - 1)
unfoldable pub sum_over : (ℕ → ℕ) → ℕ → ℕ
sum_over f n = joined ◌+◌ 0 f n

-- a test that passes counts 1, another 0
abbrev pub bit : Bool → ℕ
bit b = cond b 1 0

-- how many places below n pass the test p
unfoldable pub count_over : (ℕ → Bool) → ℕ → ℕ
count_over p n = sum_over (λ k. bit (p k)) n

-- some place below n passes the test p
unfoldable pub any_over : (ℕ → Bool) → ℕ → Bool
any_over p n = joined ◌||◌ false p n

-- every place below n passes the test p
unfoldable pub all_over : (ℕ → Bool) → ℕ → Bool
all_over p n = joined ◌&&◌ true p n

-- the first place below n that passes the test p; n where none does
unfoldable pub first_over : (ℕ → Bool) → ℕ → ℕ
first_over p zero = 0
first_over p (suc n) = cond (ltb (first_over p n) n) (first_over p n) (cond (p n) n (suc n))

-- a value that counts only where a test passes
abbrev pub number_if : Bool → ℕ → ℕ
number_if b v = cond b v 0

-- the largest of the values f k at the places below n that pass the test p; 0 where none does
unfoldable pub largest_in : (ℕ → Bool) → (ℕ → ℕ) → ℕ → ℕ
largest_in p f n = largest_over (λ k. number_if (p k) (f k)) n

-- the first of these places that has this value; n where none passes
unfoldable pub place_in : (ℕ → Bool) → (ℕ → ℕ) → ℕ → ℕ
place_in p f n = first_over (λ k. p k && eqb (f k) (largest_in p f n)) n

-- the list of f 0, .. , f (n - 1): how a specification names an array
unfoldable pub table : {A : Type 0} → (ℕ → A) → ℕ → List A
table f n = joined ◌++◌ [] (λ k. f k ∷ []) n

-- the number whose digits in a base are f 0, .. , f (n - 1), the highest digit first
unfoldable pub in_base : ℕ → (ℕ → ℕ) → ℕ → ℕ
in_base base f n = joined (λ a d. base * a + d) 0 f n

-- digit k, from 0, of the n digits of a number x in a base, the highest digit first
abbrev pub digit_of : ℕ → ℕ → ℕ → ℕ → ℕ
digit_of base n x k = x / base ^ (n - 1 - k) % base
