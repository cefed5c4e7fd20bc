-- Two modules that meet the demands answer every input alike: the rows fix the number, the columns (specs/Refusals) the
-- figures, and only one reading is the first illegal one.
-- Assumes nothing.
use mathlib.Core.Path.{◌≡◌, refl, sym, ◌∙◌}
use mathlib.Core.Logic.{◌↔◌}
use mathlib.Core.List.{List, [], ◌∷◌}
use Prim.Native.Nat.{ℕ, ◌+◌, ◌<◌}
use native.Mathlib.Decide.{dec_lt, ℕ_discrete}
use native.Mathlib.Omega.{arith}
use Rattle.answers.specs.Said.{Said}
use Rattle.readings.specs.declared.Run.{Run}
use Rattle.readings.specs.Illegal.{FirstIllegalIn}
use Rattle.demands.specs.Refusals.{Carries, NamesFirst, CarriesPlace, FirstOfDay}
use Rattle.demands.specs.Demands.{NothingElse}
use Rattle.demands.proofs.Carried.{said_is}
use Rattle.demands.proofs.Parts.{same_part}

-- the same rows fix the number
same_number : {Row : ℕ → Type 0} {a b : ℕ} → ((n : ℕ) → (a ≡ n) ↔ Row n) → ((n : ℕ) → (b ≡ n) ↔ Row n) → a ≡ b
same_number {b = b} p q = (p b).1 ((q b).0 refl)

-- the same number and the same column
carried_same : {a b : Said} {column : ℕ → List ℕ} → a.number ≡ b.number → Carries a column → Carries b column → a ≡ b
carried_same {a} {b} {column} e c d = said_is a column b.number c e ∙ sym (said_is b column b.number d refl)

-- one place alone can be named
abbrev One : (ℕ → ℕ → Type 0) → Type 0
One First = (d q e r : ℕ) → First d q → First e r → (d ≡ e) × (q ≡ r)

placed_same :
    {a b : Said} {First : ℕ → ℕ → Type 0} {column : ℕ → List ℕ}
    → One First
    → a.number ≡ b.number
    → CarriesPlace a First column
    → CarriesPlace b First column
    → a ≡ b
placed_same {a} {b} {First} one e c d = go (ℕ_discrete a.number 5)
  where
    named : NamesFirst a First → NamesFirst b First → a ≡ b
    named x y =
        let p = one x.on x.at y.on y.at x.first y.first in
        let same : a.figures ≡ b.figures = x.named ∙ (λ i. (p.0 i + 1) ∷ p.1 i ∷ []) ∙ sym y.named in
        λ i. record { number = e i; figures = same i }

    go : Dec (a.number ≡ 5) → a ≡ b
    go (yes z) = named (c.place z) (d.place (sym e ∙ z))
    go (no n) = carried_same e (c.listed n) (d.listed (λ z. n (e ∙ z)))

one_in : (run : Run) (limit : ℕ) (xs : List ℕ) → One (FirstIllegalIn run limit xs)
one_in run limit xs d q e r f g = (day, position)
  where
    day : d ≡ e
    day = go (dec_lt d e) (dec_lt e d)
      where
        go : Dec (d < e) → Dec (e < d) → d ≡ e
        go (yes l) m = absurd (omega (arith, f.above, g.days_before_law d q l f.at_in))
        go (no l) (yes m) = absurd (omega (arith, g.above, f.days_before_law e r m g.at_in))
        go (no l) (no m) = omega arith

    position : q ≡ r
    position = go (dec_lt q r) (dec_lt r q)
      where
        there : FirstIllegalIn run limit xs d r
        there = rw day g

        go : Dec (q < r) → Dec (r < q) → q ≡ r
        go (yes l) m = absurd (omega (arith, f.above, there.before q l))
        go (no l) (yes m) = absurd (omega (arith, there.above, f.before r m))
        go (no l) (no m) = omega arith

one_of_day : (limit n : ℕ) (day : List ℕ) → One (FirstOfDay limit n day)
one_of_day limit n day d q e r f g = (f.on_day ∙ sym g.on_day, go (dec_lt q r) (dec_lt r q))
  where
    go : Dec (q < r) → Dec (r < q) → q ≡ r
    go (yes l) m = absurd (omega (arith, f.first.above, g.first.before q l))
    go (no l) (yes m) = absurd (omega (arith, g.first.above, f.first.before r m))
    go (no l) (no m) = omega arith

pub nothing_else : NothingElse
nothing_else m n d e =
    let given = d.exactly_when in
    let row = e.exactly_when in
    let mine = d.carried in
    let other = e.carried in
    record {
      load = λ es ed. carried_same (same_number (given.load es ed) (row.load es ed)) (mine.load es ed) (other.load es ed);
      calendar = λ es y hs k.
          carried_same (same_number (given.calendar es y hs k) (row.calendar es y hs k)) (mine.calendar es y hs k) (other.calendar es y hs k);
      read = λ es b. carried_same (same_number (given.read es b) (row.read es b)) (mine.read es b) (other.read es b);
      write = λ es s room. carried_same (same_number (given.write es s room) (row.write es s room)) (mine.write es s room) (other.write es s room);
      part = same_part m n d.handed_out e.handed_out;
      windows = λ es y level xs buffer.
          placed_same (one_in _ _ xs) (same_number (given.windows es y level xs buffer) (row.windows es y level xs buffer))
          (mine.windows es y level xs buffer) (other.windows es y level xs buffer);
      grid_open_law = λ es y level.
          carried_same (same_number (given.grid_open_law es y level) (row.grid_open_law es y level))
          (mine.grid_open_law es y level) (other.grid_open_law es y level);
      grid_day_law = λ g day.
          placed_same (one_of_day _ g.seen day) (same_number (given.grid_day_law g day) (row.grid_day_law g day))
          (mine.grid_day_law g day) (other.grid_day_law g day);
      grid_close_law = λ g buffer.
          carried_same (same_number (given.grid_close_law g buffer) (row.grid_close_law g buffer))
          (mine.grid_close_law g _) (other.grid_close_law g _);
      eligible = λ ed f r. carried_same (same_number (given.eligible ed f r) (row.eligible ed f r)) (mine.eligible ed f r) (other.eligible ed f r);
      charge = λ ed f r. carried_same (same_number (given.charge ed f r) (row.charge ed f r)) (mine.charge ed f r) (other.charge ed f r);
      judge = λ ed f r. carried_same (same_number (given.judge ed f r) (row.judge ed f r)) (mine.judge ed f r) (other.judge ed f r);
      decide = λ k xs. placed_same (one_in _ _ xs) (same_number (given.decide k xs) (row.decide k xs)) (mine.decide k xs) (other.decide k xs);
      customer_open_law = λ k. carried_same (same_number (given.customer_open_law k) (row.customer_open_law k)) (mine.customer_open_law k)
          (other.customer_open_law k);
      customer_day_law = λ c day.
          placed_same (one_of_day _ c.seen day) (same_number (given.customer_day_law c day) (row.customer_day_law c day))
          (mine.customer_day_law c day) (other.customer_day_law c day);
      customer_close_law = λ c. carried_same (same_number (given.customer_close_law c) (row.customer_close_law c)) (mine.customer_close_law c)
          (other.customer_close_law c);
    }
