-- Laws of a sheet's windows: which quarter is set, how many are set in a season, and the chosen quarters laid flat.
-- Assumes nothing.
use mathlib.Core.Path.{◌≡◌, ap, ◌∙◌}
use mathlib.Core.Bool.{Bool, true, false, ◌||◌}
use mathlib.Core.Logic.{◌↔◌}
use mathlib.Core.List.{List, []}
use Prim.Native.Nat.{ℕ, zero, suc, ◌+◌, ◌-◌, ◌*◌, ◌/◌, ◌%◌, ◌≤◌, ◌<◌}
use native.Mathlib.Nat.{not-suc-le-zero}
use native.Mathlib.Numerals.{unary_clauses}
use native.Mathlib.Omega.{arith}
use borrow.Author.Tests.{lt-ltb, le-ltb, le-leb, ltb-false}
use lib.Dec.{ltb}
use lib.ListN.{length, get_or, take, drop, length-drop}
use lib.Seq.{drop-drop}
use Rattle.std.specs.List.{count_by}
use Rattle.std.specs.Simd.{first_chunks}
use Rattle.std.proofs.lemmas.List.{get_or-drop}
use Rattle.ranges.specs.Limits.{Within}
use Rattle.ranges.specs.Ranges.{joined, any_over}
use Rattle.ranges.proofs.Tests.{any_at, any_fails, all_passed, count_cong}
use Rattle.ranges.proofs.Counts.{count_first}
use Rattle.ranges.proofs.Tables.{length_table, get_d_table}
use Rattle.answers.specs.declared.Edition.{Edition}
use Rattle.answers.specs.Ruling.{day_quarters}
use Rattle.sheet.specs.Windows.{seasons, window_places, quarter_place, is_set, set_in, too_many, too_full, Roomy, flat_windows}

-- is a quarter inside the seasons and the day set
pub set_at : (w : List Bool) (s q : ℕ) → Within 1 seasons s → q < day_quarters → get_or w (quarter_place s q) false ≡ is_set w s q
unfolding is_set
set_at w s q h l = simp (le-leb 1 s h.from, le-leb s seasons h.to, lt-ltb q day_quarters l)

-- a season is too full exactly when not every one has room
full_at : (ed : Edition) (w : List Bool) → too_full ed w ≡ false → (k : ℕ) → k < seasons → set_in w (k + 1) ≤ ed.limit
unfolding too_full
full_at ed w e k l = ltb-false ed.limit (set_in w (k + 1)) ((all_passed (λ j. ltb ed.limit (set_in w (j + 1))) seasons e).fails k l)

pub roomy : (ed : Edition) (w : List Bool) → (too_full ed w ≡ false) ↔ Roomy ed w
unfolding too_full
roomy ed w = (
  λ e s h. let p : s - 1 + 1 ≡ s = omega arith in rw p at (full_at ed w e (s - 1) (omega arith)),
  λ h.
      any_fails (λ j. ltb ed.limit (set_in w (j + 1))) seasons
      (λ k l. le-ltb ed.limit (set_in w (k + 1)) (h (k + 1) (record { from = omega arith; to = omega arith }))),
)

pub too_full_law :
    (ed : Edition) (w : List Bool) (a b c d : ℕ)
    → a ≡ set_in w 1
    → b ≡ set_in w 2
    → c ≡ set_in w 3
    → d ≡ set_in w 4
    → (ltb ed.limit a || ltb ed.limit b || ltb ed.limit c || ltb ed.limit d) ≡ too_full ed w
unfolding too_full any_over joined
too_full_law ed w a b c d p q r s = rw (p, q, r, s)

pub full_season : (ed : Edition) (w : List Bool) (k : ℕ) → k < seasons → too_many ed (set_in w (k + 1)) ≡ true → too_full ed w ≡ true
unfolding too_full
full_season ed w k l t = any_at (λ j. too_many ed (set_in w (j + 1))) seasons k l t

-- the seasons' lists, cut out of all windows one after the other
pub chunk_at : {A : Type 0} (n m : ℕ) (xs : List A) (k : ℕ) (d : List A) → k < m → get_or (first_chunks n m xs) k d ≡ take n (drop (n * k) xs)
chunk_at n zero xs k d l = absurd (not-suc-le-zero l)
chunk_at n (suc m) xs zero d l =
    let e : 0 ≡ n * 0 = omega arith in
    ap (λ (i : ℕ). take n (drop i xs)) e
chunk_at n (suc m) xs (suc k) d l =
    let e : n + n * k ≡ n * suc k = simp unary_clauses (omega arith) in
    chunk_at n m (drop n xs) k d (omega (arith, l)) ∙ ap (take n) (drop-drop (n * k) n xs) ∙ ap (λ (i : ℕ). take n (drop i xs)) e

-- how many quarters are set in such a list
pub season_cut :
    (w : List Bool) (k : ℕ)
    → length w ≡ window_places
    → k < seasons
    → count_by (λ b. b) (take day_quarters (drop (day_quarters * k) w)) ≡ set_in w (k + 1)
unfolding set_in
season_cut w k h l =
    count_first (λ b. b) false (drop (day_quarters * k) w) day_quarters (omega (arith, length-drop (day_quarters * k) w, h))
    ∙ count_cong _ _ day_quarters
    (λ q m.
    let e : day_quarters * k + q ≡ quarter_place (k + 1) q = omega arith in
    get_or-drop (day_quarters * k) w q false ∙ ap (λ (i : ℕ). get_or w i false) e)

-- the chosen quarters, laid flat
pub length_flat : (chosen : List (List Bool)) → length (flat_windows chosen) ≡ window_places
unfolding flat_windows
length_flat chosen = length_table _ window_places

pub flat_at :
    (chosen : List (List Bool)) (s q : ℕ)
    → Within 1 seasons s
    → q < day_quarters
    → get_or (flat_windows chosen) (quarter_place s q) false ≡ get_or (get_or chosen (s - 1) []) q false
unfolding flat_windows
flat_at chosen s q h l =
    let d : quarter_place s q / day_quarters ≡ s - 1 = omega arith in
    let m : quarter_place s q % day_quarters ≡ q = omega arith in
    get_d_table (λ p. get_or (get_or chosen (p / day_quarters) []) (p % day_quarters) false) window_places (quarter_place s q) false (omega arith) ∙ rw (d, m)
