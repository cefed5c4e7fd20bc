-- Laws of the window program's lines: the cases of a quarter and of a season, where a run ends, and
-- how long all lines are at most.
-- Assumes nothing.
use mathlib.Core.Path.{◌≡◌, refl, sym, ap, ◌∙◌}
use mathlib.Core.Bool.{Bool, true, false, beq, cond, not}
use mathlib.Core.List.{List, [], ◌∷◌, ◌++◌}
use Prim.Native.Nat.{ℕ, zero, suc, ◌+◌, ◌-◌, ◌*◌, ◌≤◌, ◌<◌}
use native.Mathlib.Omega.{arith}
use borrow.Author.Tests.{le-leb, le-ltb}
use Rattle.ranges.specs.Limits.{Within}
use lib.ListN.{length, get_or, take, drop, get_or-eq_default, length-append, length-take, length-drop}
use Rattle.std.proofs.lemmas.List.{get_or-take, get_or-drop}
use Rattle.ranges.specs.Ranges.{any_over}
use Rattle.ranges.proofs.Tests.{Passed, any_at, any_fails}
use Rattle.std.specs.List.{AllWithin, HoldsAt}
use Rattle.std.specs.Simd.{first_chunks}
use Rattle.sheet.proofs.Windows.{set_at, chunk_at}
use lib.Seq.{drop-drop}
use native.Mathlib.Nat.{not-suc-le-zero}
use native.Mathlib.Numerals.{unary_clauses}
use native.Mathlib.Decide.{dec_lt}
use Rattle.ranges.proofs.First.{first_at, first_fails}
use Rattle.answers.specs.Ruling.{day_quarters}
use Rattle.sheet.specs.Windows.{seasons, is_set}
use Rattle.texts.specs.Text.{text_most, text_over}
use Rattle.lines.specs.Figures.{field_in, figures_line}
use Rattle.window_lines.specs.Runs.{head_mark, head_line, time_of, run_line, none_line, begins, run_end, run_text, quarters, season_text, season_in, windows_text}
use Rattle.texts.proofs.Text.{text_short}
use Rattle.lines.proofs.Figures.{field_short, figures_long}

-- the head
pub head_is : (year level : ℕ) → head_mark ++ figures_line (year ∷ level ∷ []) ≡ head_line year level
unfolding head_line
head_is year level = refl

pub head_long : (year level : ℕ) → length (head_line year level) ≡ 4 + length (figures_line (year ∷ level ∷ []))
unfolding head_line
head_long year level = length-append head_mark (figures_line (year ∷ level ∷ []))

pub head_short : (year level : ℕ) → length (head_line year level) ≤ 49
head_short year level =
    let figures = year ∷ level ∷ [] in
    omega (arith, head_long year level, figures_long figures, text_short (field_in figures) 2 22 (λ k l. field_short k (get_or figures k 0)))

pub line_long : (season from to : ℕ) → length (run_line season from to) ≡ 14
unfolding run_line time_of
line_long season from to = refl

-- a run begins at a quarter, or not
module _ (season : ℕ) (f : ℕ → Bool) (q : ℕ) where
  pub run_yes : begins f q ≡ true → run_line season q (run_end f q) ≡ run_text season f q
  unfolding run_text
  run_yes e = rw e

  pub run_no : begins f q ≡ false → [] ≡ run_text season f q
  unfolding run_text
  run_no e = rw e

  run_short : length (run_text season f q) ≤ 14
  unfolding run_text
  run_short = go (begins f q)
    where
      go : (b : Bool) → length (cond b (run_line season q (run_end f q)) []) ≤ 14
      go true = omega (arith, line_long season q (run_end f q))
      go false = omega arith

-- where a run ends: a search from its first quarter
module _ (f : ℕ → Bool) (q : ℕ) {j : ℕ} (p : Passed (λ k. not (f (q + k))) j) where
  pub run_stops : q + j < day_quarters → not (f (q + j)) ≡ true → q + j ≡ run_end f q
  run_stops l e = ap (λ (k : ℕ). q + k) (sym (first_at (λ k. not (f (q + k))) (day_quarters - q) j (omega arith) e p.fails))

  pub run_through : q < day_quarters → day_quarters - q ≤ j → day_quarters ≡ run_end f q
  run_through l m = omega (arith, first_fails (λ k. not (f (q + k))) (day_quarters - q) (λ k b. p.fails k (omega arith)))

-- the same by the part of a season's quarters that begins at q, as a search in it tells
module _ (set : List Bool) (q : ℕ) where
  abbrev pub rest : List Bool
  rest = take (day_quarters - q) (drop q set)

  rest_at : (k : ℕ) (d : Bool) → k < day_quarters - q → get_or rest k d ≡ get_or set (q + k) d
  rest_at k d l = get_or-take (day_quarters - q) (drop q set) k d l ∙ get_or-drop q set k d

  passed : (j : ℕ) → j ≤ day_quarters - q → AllWithin (λ x. x ≡ true) rest 0 j → Passed (λ k. not (quarters set (q + k))) j
  passed j m h = record { fails = λ k l. ap not (sym (rest_at k false (omega arith)) ∙ h k false (omega arith) l) }

  pub rest_stops :
      (j : ℕ)
      → (j < length rest) × HoldsAt (λ x. x ≡ false) rest j × AllWithin (λ x. x ≡ true) rest 0 j
      → (q + j ≡ run_end (quarters set) q) × (q + j ≤ day_quarters)
  rest_stops j h =
      let l : j < day_quarters - q = omega (arith, h.0, length-take (day_quarters - q) (drop q set)) in
      let clear = ap not (sym (rest_at j false l) ∙ h.1 false) in
      (run_stops (quarters set) q (passed j (omega arith) h.2) (omega arith) clear, omega arith)

  pub rest_through :
      length set ≡ day_quarters
      → q < day_quarters
      → AllWithin (λ x. x ≡ true) rest 0 (length rest)
      → (day_quarters ≡ run_end (quarters set) q) × (day_quarters ≤ day_quarters)
  rest_through long l h =
      let n : length rest ≡ day_quarters - q = length-take (day_quarters - q) (drop q set) ∙ omega (arith, length-drop q set, long) in
      (run_through (quarters set) q (passed (day_quarters - q) (omega arith) (rw n at h)) l (omega arith), omega arith)

-- a season's lines
module _ (season : ℕ) (f : ℕ → Bool) where
  pub season_runs : any_over f day_quarters ≡ true → text_over (run_text season f) day_quarters ≡ season_text season f
  unfolding season_text
  season_runs e = rw e

  pub season_none : any_over f day_quarters ≡ false → none_line season ≡ season_text season f
  unfolding season_text
  season_none e = rw e

  season_short : length (season_text season f) ≤ 1344
  unfolding season_text
  season_short = go (any_over f day_quarters)
    where
      go : (b : Bool) → length (cond b (text_over (run_text season f) day_quarters) (none_line season)) ≤ 1344
      go true = omega (arith, text_short (run_text season f) day_quarters 14 (λ k l. run_short season f k))
      go false = omega arith

-- is a quarter of a season set: some place of its list is, or none
is_true : (b : Bool) → beq b true ≡ true → b ≡ true
is_true true e = refl
is_true false e = e

is_false : (b : Bool) → beq b true ≡ false → b ≡ false
is_false true e = e
is_false false e = refl

pub some_set :
    (set : List Bool)
    → length set ≡ day_quarters
    → (k : ℕ) × (k < length set) × HoldsAt (λ x. beq x true ≡ true) set k
    → any_over (quarters set) day_quarters ≡ true
some_set set long h = any_at (quarters set) day_quarters h.0 (omega (arith, long, h.1)) (is_true _ (h.2 false))

pub none_set :
    (set : List Bool)
    → length set ≡ day_quarters
    → AllWithin (λ x. beq x true ≡ false) set 0 (length set)
    → any_over (quarters set) day_quarters ≡ false
none_set set long h = any_fails (quarters set) day_quarters (λ k l. is_false _ (h k false (omega arith) (omega (arith, long))))

-- behind the day no quarter is set
set_past : (w : List Bool) (s q : ℕ) → Within 1 seasons s → day_quarters ≤ q → false ≡ is_set w s q
unfolding is_set
set_past w s q h l = simp (le-leb 1 s h.from, le-leb s seasons h.to, le-ltb q day_quarters l)

module _ (w : List Bool) (k : ℕ) (l : k < seasons) where
  abbrev part : List Bool
  part = take day_quarters (drop (day_quarters * k) w)

  part_at : (q : ℕ) → quarters part q ≡ is_set w (k + 1) q
  part_at q = go (dec_lt q day_quarters)
    where
      go : Dec (q < day_quarters) → quarters part q ≡ is_set w (k + 1) q
      go (yes m) =
          get_or-take day_quarters (drop (day_quarters * k) w) q false m
          ∙ get_or-drop (day_quarters * k) w q false
          ∙ ap (λ (i : ℕ). get_or w i false) (omega arith)
          ∙ set_at w (k + 1) q (record { from = omega arith; to = omega arith }) m
      go (no m) =
          get_or-eq_default part false (omega (arith, length-take day_quarters (drop (day_quarters * k) w)))
          ∙ set_past w (k + 1) q (record { from = omega arith; to = omega arith }) (omega arith)

  pub season_at : (d : List Bool) → season_text (k + 1) (quarters (get_or (first_chunks day_quarters seasons w) k d)) ≡ season_in w k
  season_at d = ap (λ s. season_text (k + 1) (quarters s)) (chunk_at day_quarters seasons w k d l) ∙ (λ i. season_text (k + 1) (λ q. part_at q i))

-- all lines: the head, then the seasons
module _ (year level : ℕ) (windows : List Bool) where
  pub windows_is : head_line year level ++ text_over (season_in windows) seasons ≡ windows_text year level windows
  unfolding windows_text
  windows_is = refl

  pub windows_long : length (windows_text year level windows) ≡ length (head_line year level) + length (text_over (season_in windows) seasons)
  unfolding windows_text
  windows_long = length-append (head_line year level) (text_over (season_in windows) seasons)

  pub windows_short : length (windows_text year level windows) ≤ text_most
  windows_short =
      omega (arith, windows_long, head_short year level, text_short (season_in windows) seasons 1344 (λ k l. season_short (k + 1) (is_set windows (k + 1))))

  -- no text is empty, so that 0 is answered exactly where the buffer is too short (lines, Only)
  pub some_windows : 0 < length (windows_text year level windows)
  some_windows = omega (arith, windows_long, head_long year level)
