-- The answer for a calendar day: one law for each case, its rows exactly, and that nothing else meets the promise.
-- Assumes nothing.
use Rattle.std.specs.Prelude.{Result, Ok, Err}
use mathlib.Core.Path.{◌≡◌, refl, sym, ap, ◌∙◌}
use mathlib.Core.Bool.{true, false, cond}
use mathlib.Core.Logic.{◌↔◌, ⊎_elim}
use mathlib.Core.List.{List}
use Prim.Native.Nat.{ℕ, ◌≤◌}
use native.Mathlib.Omega.{arith}
use lib.Dec.{eqb}
use lib.ListN.{get_or}
use Rattle.ranges.proofs.Bools.{decided, refutes, within}
use Rattle.answers.specs.declared.Edition.{Edition}
use Rattle.answers.specs.Ruling.{lacks_year}
use Rattle.answers.specs.Said.{Said, only}
use Rattle.answers.proofs.Laws.{one_answer, has_year}
use Rattle.dates.specs.Dates.{year_days, most_days}
use Rattle.dates.proofs.Leaps.{leap_small}
use Rattle.holidays.specs.Holidays.{bad_holidays}
use Rattle.holidays.proofs.Lists.{legal_holidays}
use Rattle.calendar.specs.declared.DayRefusal.{DayRefusal}
use Rattle.calendar.specs.declared.DayRefusal.TheVariants.{YearOut, BadList, DayOut}
use Rattle.day_kinds.specs.declared.DayKind.{DayKind}
use Rattle.day_kinds.specs.declared.DayKind.TheVariants.{Windows, Weekend, Listed, Christmas, Bridge}
use Rattle.day_kinds.specs.Kinds.{kind_of}
use Rattle.calendar.specs.Answer.DayRow.{one, three, thirteen, zero}
use Rattle.calendar.specs.Answer.{of_kind, said_of_day, day_out, calendar_answer, DayOfYear, DayRow}

-- a day is refused exactly when it is no day of the year
pub day_of_year : (y d : ℕ) → (day_out y d ≡ false) ↔ DayOfYear y d
unfolding day_out
day_of_year y d = within 1 (year_days y) d

-- a day of the year has its place among the marks
pub day_inside : (y d : ℕ) → day_out y d ≡ false → (1 ≤ d) × (d ≤ most_days)
day_inside y d e =
    let h = (day_of_year y d).0 e in
    (h.from, omega (arith, leap_small y))

-- the code's cases, in the order 1, 3, 13
module _ (ed : Edition) (y : ℕ) (hs : List ℕ) (d : ℕ) where
  pub said_year : lacks_year ed y ≡ true → only 1 ≡ calendar_answer ed y hs d
  unfolding calendar_answer
  said_year e = rw e

  module _ (a : lacks_year ed y ≡ false) where
    pub said_list : bad_holidays y hs ≡ true → only 3 ≡ calendar_answer ed y hs d
    unfolding calendar_answer
    said_list e = rw (a, e)

    module _ (b : bad_holidays y hs ≡ false) where
      pub said_day : day_out y d ≡ true → only 13 ≡ calendar_answer ed y hs d
      unfolding calendar_answer
      said_day e = rw (a, b, e)

      pub said_kind : day_out y d ≡ false → {r : DayKind} → r ≡ kind_of y hs d → of_kind r ≡ calendar_answer ed y hs d
      unfolding calendar_answer
      said_kind e {r} f = rw (a, b, e, f)

-- each number is answered exactly when its row holds and none before it does
module _ (ed : Edition) (y : ℕ) (hs : List ℕ) (d : ℕ) where
  holds : DayRow ed y hs d (calendar_answer ed y hs d).number
  holds =
      ⊎_elim (λ p. rw (← said_year ed y hs d p) (one ((refutes _ (has_year ed y)).0 p))) (λ a.
      ⊎_elim (λ p. rw (← said_list ed y hs d a p) (three ((has_year ed y).0 a) ((refutes _ (legal_holidays y hs)).0 p))) (λ b.
      ⊎_elim (λ p. rw (← said_day ed y hs d a b p) (thirteen ((has_year ed y).0 a) ((legal_holidays y hs).0 b) ((refutes _ (day_of_year y d)).0 p))) (λ c.
      rw (← said_kind ed y hs d a b c refl) (zero ((has_year ed y).0 a) ((legal_holidays y hs).0 b) ((day_of_year y d).0 c)))
      (decided (day_out y d))) (decided (bad_holidays y hs))) (decided (lacks_year ed y))

  given : {n : ℕ} → DayRow ed y hs d n → (calendar_answer ed y hs d).number ≡ n
  given (one a) = rw (← said_year ed y hs d ((refutes _ (has_year ed y)).1 a))
  given (three a b) = rw (← said_list ed y hs d ((has_year ed y).1 a) ((refutes _ (legal_holidays y hs)).1 b))
  given (thirteen a b c) =
      rw (← said_day ed y hs d ((has_year ed y).1 a) ((legal_holidays y hs).1 b) ((refutes _ (day_of_year y d)).1 c))
  given (zero a b c) =
      rw (← said_kind ed y hs d ((has_year ed y).1 a) ((legal_holidays y hs).1 b) ((day_of_year y d).1 c) refl)

  pub exactly : (n : ℕ) → ((calendar_answer ed y hs d).number ≡ n) ↔ DayRow ed y hs d n
  exactly n = (λ e. rw e at holds, given)

  -- and 0 tells the day's kind
  pub zero_says : (calendar_answer ed y hs d).number ≡ 0 → calendar_answer ed y hs d ≡ of_kind (kind_of y hs d)
  zero_says e = go ((exactly 0).0 e)
    where
      go : DayRow ed y hs d 0 → calendar_answer ed y hs d ≡ of_kind (kind_of y hs d)
      go (zero a b c) = sym (said_kind ed y hs d ((has_year ed y).1 a) ((legal_holidays y hs).1 b) ((day_of_year y d).1 c) refl)

-- an answer, back from what it says: so two answers that say the same are equal, without a case for each pair
abbrev kind_back : ℕ → DayKind
kind_back code =
    cond (eqb code 1) Windows
    (cond (eqb code 2) Weekend
    (cond (eqb code 3) Listed
    (cond (eqb code 4) Christmas
    Bridge)))

abbrev day_back : Said → Result DayKind DayRefusal
day_back a =
    cond (eqb a.number 1) (Err YearOut)
    (cond (eqb a.number 3) (Err BadList)
    (cond (eqb a.number 13) (Err DayOut)
    (Ok (kind_back (get_or a.figures 0 0)))))

back : (a : Result DayKind DayRefusal) → day_back (said_of_day a) ≡ a
back (Ok Windows) = refl
back (Ok Weekend) = refl
back (Ok Listed) = refl
back (Ok Christmas) = refl
back (Ok Bridge) = refl
back (Err YearOut) = refl
back (Err BadList) = refl
back (Err DayOut) = refl

-- what an answer says fixes the answer, so nothing else meets the promise of `day_kind`
pub day_said : {a b : Result DayKind DayRefusal} → said_of_day a ≡ said_of_day b → a ≡ b
day_said {a} {b} e = sym (back a) ∙ ap day_back e ∙ back b

pub kind_only :
    (ed : Edition) (y : ℕ) (hs : List ℕ) (d : ℕ) {r s : Result DayKind DayRefusal}
    → said_of_day r ≡ calendar_answer ed y hs d
    → said_of_day s ≡ calendar_answer ed y hs d
    → r ≡ s
kind_only ed y hs d p q = day_said (one_answer p q)
