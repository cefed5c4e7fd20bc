-- The calendar's tests say what specs/Calendar says without tests.
-- Assumes nothing.
use mathlib.Core.Path.{◌≡◌, refl, sym, ap, ◌∙◌}
use mathlib.Core.Bool.{Bool, true, false, not, ◌&&◌, ◌||◌, or-true}
use mathlib.Core.Logic.{◌↔◌, ◌⊎◌, inl, inr, ⊎_elim}
use mathlib.Core.List.{List, [], ◌∷◌}
use Prim.Native.Nat.{ℕ, ◌+◌, ◌-◌, ◌≤◌, ◌<◌}
use native.Mathlib.Omega.{arith}
use borrow.Author.Tests.{le-leb, lt-leb, leb-true, leb-false, eq-eqb, eqb-true}
use lib.Dec.{leb, eqb}
use lib.ListN.{get_or}
use Rattle.ranges.proofs.Bools.{decided, both, pair, either, neither, clash}
use Rattle.dates.specs.Dates.{year_days, saturday, weekday_of}
use Rattle.editions.specs.declared.Editions.{Editions}
use Rattle.holidays.specs.Holidays.{listed}
use Rattle.day_kinds.specs.declared.DayKind.{DayKind}
use Rattle.day_kinds.specs.declared.DayKind.TheVariants.{Windows, Weekend, Listed, Christmas, Bridge}
use Rattle.day_kinds.specs.Kinds.{weekend, christmas, free, candidate, monday_candidate, friday_candidate, bridge, kind_code, is_windows, kind_of}
use Rattle.day_kinds.proofs.Rules.{christmas_by, kind_weekend, kind_listed, kind_christmas, kind_bridge, kind_windows}
use Rattle.demands.specs.Module.{ours}
use Rattle.demands.specs.Calendar.{Working, MondayBridge, FridayBridge, CarriesWindows, KindRow, Calendar}
use Rattle.demands.specs.Calendar.KindRow.{windows as is-window, weekend as is-weekend, holiday as is-holiday, christmas as is-christmas, bridge as is-bridge}
use Rattle.demands.proofs.Carried.{carried}

-- a test that fails, turned round
not_so : (b : Bool) → (not b ≡ true) ↔ (b ≡ false)
not_so true = ((λ e. sym e), (λ e. sym e))
not_so false = ((λ e. refl), (λ e. refl))

-- the first figure of a list
abbrev first_of : List ℕ → ℕ
first_of figures = get_or figures 0 0

module _ (y : ℕ) (hs : List ℕ) where
  -- 24 December is seven days before the year's end
  away : (d : ℕ) → (christmas y d ≡ false) ↔ ((1 < d) × (d + 7 < year_days y))
  away d =
      rw (← christmas_by y d (year_days y) refl) (
        (λ e. let n = neither (leb d 1) (leb (year_days y - 7) d) e in (leb-false d 1 n.0, omega (arith, leb-false (year_days y - 7) d n.1))),
        λ h. simp (lt-leb d 1 h.0, lt-leb (year_days y - 7) d (omega (arith, h.1))),
      )

  workday : (d : ℕ) → weekend y d ≡ false → weekday_of y d ≤ 4
  workday d e = omega (arith, leb-false saturday (weekday_of y d) e)

  working : (d : ℕ) → (free y (listed hs) d ≡ false) ↔ Working y hs d
  unfolding free
  working d = (there, back)
    where
      there : (weekend y d || (listed hs d || christmas y d)) ≡ false → Working y hs d
      there e =
          let a = neither (weekend y d) (listed hs d || christmas y d) e in
          let b = neither (listed hs d) (christmas y d) a.1 in
          let c = (away d).0 b.1 in
          record { week = workday d a.0; unlisted = b.0; new_year = c.0; christmas = c.1 }

      back : Working y hs d → (weekend y d || (listed hs d || christmas y d)) ≡ false
      back w = simp (lt-leb saturday (weekday_of y d) (omega (arith, w.week)), w.unlisted, (away d).1 (w.new_year, w.christmas))

  -- a candidate, in three parts
  parts :
      (weekday neighbour d : ℕ)
      → (candidate y (listed hs) weekday neighbour d ≡ true) ↔ ((weekday_of y d ≡ weekday) × ((listed hs neighbour ≡ true) × Working y hs d))
  unfolding candidate
  parts weekday neighbour d = (there, back)
    where
      there :
          (eqb (weekday_of y d) weekday && (listed hs neighbour && not (free y (listed hs) d))) ≡ true
          → (weekday_of y d ≡ weekday) × ((listed hs neighbour ≡ true) × Working y hs d)
      there e =
          let a = both _ _ e in
          let b = both _ _ a.1 in
          (eqb-true _ _ a.0, (b.0, (working d).0 ((not_so _).0 b.1)))

      back :
          (weekday_of y d ≡ weekday) × ((listed hs neighbour ≡ true) × Working y hs d)
          → (eqb (weekday_of y d) weekday && (listed hs neighbour && not (free y (listed hs) d))) ≡ true
      back h = pair (eq-eqb _ _ h.0) (pair h.1.0 ((not_so _).1 ((working d).1 h.1.1)))

  monday_is : (d : ℕ) → (monday_candidate y (listed hs) d ≡ true) ↔ MondayBridge y hs d
  monday_is d =
      let p = parts 0 (d + 1) d in (
        (λ e. let h = p.0 e in record { monday = h.0; tuesday = h.1.0; working = h.1.1 }),
        λ b. p.1 (b.monday, (b.tuesday, b.working)),
      )

  friday_is : (d : ℕ) → ((friday_candidate y (listed hs) d && not (monday_candidate y (listed hs) (d - 4))) ≡ true) ↔ FridayBridge y hs d
  friday_is d = (there, back)
    where
      there : (friday_candidate y (listed hs) d && not (monday_candidate y (listed hs) (d - 4))) ≡ true → FridayBridge y hs d
      there e =
          let a = both (friday_candidate y (listed hs) d) (not (monday_candidate y (listed hs) (d - 4))) e in
          let h = (parts 4 (d - 1) d).0 a.0 in
          record {
            friday = h.0;
            thursday = h.1.0;
            working = h.1.1;
            first = λ b. clash ((monday_is (d - 4)).1 b) ((not_so _).0 a.1);
          }

      back : FridayBridge y hs d → (friday_candidate y (listed hs) d && not (monday_candidate y (listed hs) (d - 4))) ≡ true
      back b =
          pair ((parts 4 (d - 1) d).1 (b.friday, (b.thursday, b.working)))
          (⊎_elim (λ e. absurd (b.first ((monday_is (d - 4)).0 e))) (λ e. (not_so _).1 e) (decided (monday_candidate y (listed hs) (d - 4))))

  -- in the Christmas period, and a bridge day
  period : (d : ℕ) → (christmas y d ≡ true) ↔ ((d ≤ 1) ⊎ (year_days y ≤ d + 7))
  period d = rw (← christmas_by y d (year_days y) refl) (there, back)
    where
      there : (leb d 1 || leb (year_days y - 7) d) ≡ true → (d ≤ 1) ⊎ (year_days y ≤ d + 7)
      there e = ⊎_elim (λ p. inl (leb-true d 1 p)) (λ p. inr (omega (arith, leb-true (year_days y - 7) d p))) (either _ _ e)

      back : (d ≤ 1) ⊎ (year_days y ≤ d + 7) → (leb d 1 || leb (year_days y - 7) d) ≡ true
      back h = ⊎_elim (λ l. simp (le-leb d 1 l)) (λ l. simp (le-leb (year_days y - 7) d (omega (arith, l))) (or-true (leb d 1))) h

  bridge_is : (d : ℕ) → (bridge y (listed hs) d ≡ true) ↔ (MondayBridge y hs d ⊎ FridayBridge y hs d)
  unfolding bridge
  bridge_is d = (there, back)
    where
      there :
          (monday_candidate y (listed hs) d || (friday_candidate y (listed hs) d && not (monday_candidate y (listed hs) (d - 4)))) ≡ true
          → MondayBridge y hs d ⊎ FridayBridge y hs d
      there e = ⊎_elim (λ m. inl ((monday_is d).0 m)) (λ f. inr ((friday_is d).0 f)) (either _ _ e)

      back :
          MondayBridge y hs d ⊎ FridayBridge y hs d
          → (monday_candidate y (listed hs) d || (friday_candidate y (listed hs) d && not (monday_candidate y (listed hs) (d - 4)))) ≡ true
      back h = ⊎_elim (λ m. simp ((monday_is d).1 m)) (λ f. simp ((friday_is d).1 f) (or-true (monday_candidate y (listed hs) d))) h

  module _ (d : ℕ) where
    -- a working day is no weekend, not listed, and not in the Christmas period
    early : Working y hs d → weekday_of y d < saturday
    early o = omega (arith, o.week)

    no_christmas : Working y hs d → christmas y d ≡ false
    no_christmas o = (away d).1 (o.new_year, o.christmas)

    -- the row of the day's own kind holds
    row : KindRow y hs d (kind_code (kind_of y hs d))
    row =
        ⊎_elim (λ e. let h = leb-true saturday (weekday_of y d) e in rw (← kind_weekend y (listed hs) d h) (is-weekend h)) (λ a.
        let w = leb-false saturday (weekday_of y d) a in
        ⊎_elim (λ e. rw (← kind_listed y (listed hs) d w e) (is-holiday (workday d a) e)) (λ b.
        ⊎_elim (λ e. rw (← kind_christmas y (listed hs) d w b e) (is-christmas (workday d a) b ((period d).0 e))) (λ c.
        ⊎_elim (λ e. rw (← kind_bridge y (listed hs) d w b c e) (is-bridge ((bridge_is d).0 e))) (λ e.
        rw (← kind_windows y (listed hs) d w b c e) (is-window (plain (workday d a) b ((away d).0 c) e)))
        (decided (bridge y (listed hs) d))) (decided (christmas y d))) (decided (listed hs d))) (decided (weekend y d))
      where
        plain : weekday_of y d ≤ 4 → listed hs d ≡ false → (1 < d) × (d + 7 < year_days y) → bridge y (listed hs) d ≡ false → CarriesWindows y hs d
        plain w u n e =
            record {
              working = record { week = w; unlisted = u; new_year = n.0; christmas = n.1 };
              no_monday = λ h. clash ((bridge_is d).1 (inl h)) e;
              no_friday = λ h. clash ((bridge_is d).1 (inr h)) e;
            }

    -- and no other
    no_bridge : CarriesWindows y hs d → bridge y (listed hs) d ≡ false
    no_bridge w = ⊎_elim (λ e. absurd (⊎_elim w.no_monday w.no_friday ((bridge_is d).0 e))) (λ e. e) (decided (bridge y (listed hs) d))

    bridged : Working y hs d → bridge y (listed hs) d ≡ true → kind_code (kind_of y hs d) ≡ 5
    bridged o e = ap kind_code (sym (kind_bridge y (listed hs) d (early o) o.unlisted (no_christmas o) e))

    code_is : {code : ℕ} → KindRow y hs d code → kind_code (kind_of y hs d) ≡ code
    code_is (is-window w) =
        let o = w.working in
        ap kind_code (sym (kind_windows y (listed hs) d (early o) o.unlisted (no_christmas o) (no_bridge w)))
    code_is (is-weekend h) = ap kind_code (sym (kind_weekend y (listed hs) d h))
    code_is (is-holiday w e) = ap kind_code (sym (kind_listed y (listed hs) d (omega (arith, w)) e))
    code_is (is-christmas w u p) = ap kind_code (sym (kind_christmas y (listed hs) d (omega (arith, w)) u ((period d).1 p)))
    code_is (is-bridge b) = bridged (⊎_elim (λ m. m.working) (λ f. f.working) b) ((bridge_is d).1 b)

-- the kind of an answer 0 is 1 exactly when the day carries windows
pub code_one : (kind : DayKind) → (kind_code kind ∷ [] ≡ 1 ∷ []) ↔ (is_windows kind ≡ true)
code_one Windows = ((λ e. refl), (λ e. refl))
code_one Weekend = ((λ e. absurd (omega (arith, ap first_of e))), (λ e. absurd (clash e refl)))
code_one Listed = ((λ e. absurd (omega (arith, ap first_of e))), (λ e. absurd (clash e refl)))
code_one Christmas = ((λ e. absurd (omega (arith, ap first_of e))), (λ e. absurd (clash e refl)))
code_one Bridge = ((λ e. absurd (omega (arith, ap first_of e))), (λ e. absurd (clash e refl)))

pub calendar : Calendar ours
calendar = record { kind = kind_when }
  where
    kind_when :
        (es : Editions) (y : ℕ) (hs : List ℕ) (d code : ℕ)
        → (ours.calendar es y hs d).number ≡ 0
        → ((ours.calendar es y hs d).figures ≡ code ∷ []) ↔ KindRow y hs d code
    kind_when es y hs d code z =
        let is : (ours.calendar es y hs d).figures ≡ kind_code (kind_of y hs d) ∷ [] = (carried.calendar es y hs d).listed ∙ simp (eq-eqb _ _ z) in (
          (λ e. rw (ap first_of (sym is ∙ e)) at (row y hs d)),
          λ r. is ∙ ap (λ (c : ℕ). c ∷ []) (code_is y hs d r),
        )
