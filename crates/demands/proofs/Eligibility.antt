-- Eligibility goes by the in-window quarters: 8 where there is none, else H is their highest reading, at its first
-- place.
-- Assumes nothing.
use mathlib.Core.Path.{◌≡◌, refl, sym, ap, ◌∙◌}
use mathlib.Core.Bool.{true, false}
use mathlib.Core.Logic.{◌↔◌}
use mathlib.Core.List.{List, [], ◌∷◌}
use Prim.Native.Nat.{ℕ, ◌+◌, ◌≤◌, ◌<◌}
use native.Mathlib.Nat.{le_trans}
use native.Mathlib.Omega.{arith}
use borrow.Author.Tests.{eq-eqb}
use lib.ListN.{length, get_or}
use Rattle.ranges.specs.Ranges.{sum_over}
use Rattle.ranges.proofs.Largest.{largest_le}
use Rattle.ranges.proofs.Bools.{both, pair}
use Rattle.ranges.proofs.Tests.{any_at, any_fails}
use Rattle.answers.specs.Ruling.{HasYear}
use Rattle.answers.specs.Said.{only}
use Rattle.dates.specs.Dates.{season_of}
use Rattle.day_kinds.specs.Kinds.{kind_code, kind_of, carries}
use Rattle.calendar.specs.Answer.{calendar_answer}
use Rattle.calendar.specs.Answer.DayRow.{zero}
use Rattle.calendar.proofs.Answers.{exactly}
use Rattle.readings.specs.Runs.{day_len, day_start, quarter_of, reading}
use Rattle.readings.specs.Legal.{day_peak, peak_of}
use Rattle.readings.proofs.Runs.{run_all, year_run}
use Rattle.readings.proofs.Legal.{reading_le}
use Rattle.sheet.specs.Windows.{is_set}
use Rattle.sheet.specs.Bytes.{sheet_in}
use Rattle.sheet.specs.Answers.{read_answer, read_sheet}
use Rattle.sheet.specs.Rows.{ReadRow}
use Rattle.sheet.specs.Rows.ReadRow.{malformed, one, two, full, zero}
use Rattle.sheet.proofs.Exactly.{read_exactly}
use Rattle.tariff.specs.Rows.{JudgeRow}
use Rattle.tariff.specs.Rows.JudgeRow.{two, six, eight, nine, ten, eleven, zero}
use Rattle.tariff.proofs.Answered.{number_is}
use Rattle.tariff.proofs.Exactly.{judge_exactly}
use Rattle.figures.specs.Figures.{any_on, figures_of, FirstPlace}
use Rattle.figures.proofs.Sum.{sum_flat}
use Rattle.figures.proofs.Peak.{first_place, nowhere_in}
use Rattle.year_figures.specs.Counts.{set_on}
use Rattle.terms.specs.declared.Terms.{Terms}
use Rattle.terms.specs.Basis.{Basis, basis_year, basis_rates, basis_edition}
use Rattle.terms.specs.Opening.{terms_of, customer_open_answer}
use Rattle.terms.specs.Rows.{LegalBasis}
use Rattle.terms.proofs.Exactly.{open_legal}
use Rattle.customer.specs.Counts.{counts}
use Rattle.customer.specs.Answers.{decide_answer}
use Rattle.customer.specs.Demand.{basis_run, basis_days, in_window, LegalYear, basis_figures}
use Rattle.customer.proofs.Demand.{counts_window, whole_one}
use Rattle.demands.specs.Module.{ours}
use Rattle.demands.specs.Answers.{Eligibility}
use Rattle.demands.proofs.Carried.{carried}
use Rattle.demands.proofs.Calendar.{code_one}
use Rattle.demands.proofs.Sheets.{handed}
use Rattle.demands.proofs.Fair.{legal_basis}

module _ (k : Basis) (xs : List ℕ) where
  abbrev terms : Terms
  terms = terms_of k

  -- some quarter is in a window, or none
  some_in : (d p : ℕ) → d < basis_days k → p < day_len (basis_run k) d → in_window k d p ≡ true → (basis_figures k xs).any ≡ true
  unfolding figures_of any_on
  some_in d p l h t = any_at _ (basis_days k) d l (any_at (counts terms d) (day_len (basis_run k) d) p h (counts_window k d p l ∙ t))

  none_in : ((d p : ℕ) → d < basis_days k → p < day_len (basis_run k) d → in_window k d p ≡ false) → (basis_figures k xs).any ≡ false
  unfolding figures_of any_on
  none_in none =
      any_fails _ (basis_days k) (λ d l. any_fails (counts terms d) (day_len (basis_run k) d) (λ p h. counts_window k d p l ∙ none d p l h))

  in_none : (basis_figures k xs).any ≡ false → (d p : ℕ) → d < basis_days k → p < day_len (basis_run k) d → in_window k d p ≡ false
  in_none f d p l h = sym (counts_window k d p l) ∙ nowhere_in (basis_run k) (counts terms) xs (basis_days k) f d p l h

  -- the decision over the figures is 8 exactly when none is
  module _ (l : LegalYear k xs) where
    abbrev Row : ℕ → Type 0
    Row n = JudgeRow (basis_edition k) (basis_figures k xs) (basis_rates k) n

    eight_none : {n : ℕ} → Row n → n ≡ 8 → (basis_figures k xs).any ≡ false
    eight_none (two a) e = absurd (omega arith)
    eight_none (six a b) e = absurd (omega arith)
    eight_none (eight h a) e = a
    eight_none (nine h a s) e = absurd (omega arith)
    eight_none (ten h s m) e = absurd (omega arith)
    eight_none (eleven h s m cut) e = absurd (omega arith)
    eight_none (zero h s m cut) e = absurd (omega arith)

    told : (n : ℕ) → ((decide_answer k xs).number ≡ n) ↔ Row n
    told n =
        let j = judge_exactly (basis_edition k) (basis_figures k xs) (basis_rates k) n in
        (λ e. j.0 (sym (number_is (whole_one k l)) ∙ e), λ r. number_is (whole_one k l) ∙ j.1 r)

    eight_when : ((decide_answer k xs).number ≡ 8) ↔ ((d p : ℕ) → d < basis_days k → p < day_len (basis_run k) d → in_window k d p ≡ false)
    eight_when = (λ e. in_none (eight_none ((told 8).0 e) refl), λ none. (told 8).1 (eight (legal_basis k xs l) (none_in none)))

  -- H's place by the sheet and the calendar, and not by the array of the year's days that carry windows
  by_calendar :
      FirstPlace (basis_run k) (counts terms) xs (basis_days k) (basis_figures k xs)
      → FirstPlace (basis_run k) (in_window k) xs (basis_days k) (basis_figures k xs)
  by_calendar f =
      record {
        on = f.on;
        at = f.at;
        on_in = f.on_in;
        at_in = f.at_in;
        counts_there = sym (counts_window k f.on f.at f.on_in) ∙ f.counts_there;
        has = f.has;
        day_is = f.day_is;
        quarter_is = f.quarter_is;
        above = λ d p l h t. f.above d p l h (counts_window k d p l ∙ t);
        days_before_law = λ d p b h t. f.days_before_law d p b h (counts_window k d p (omega (arith, f.on_in)) ∙ t);
        before = λ p b t. f.before p b (counts_window k f.on p f.on_in ∙ t);
      }

-- on an opened basis the calendar answers 0 for every day of the year, and the sheet that reading shows is the basis's
module _ (k : Basis) (o : customer_open_answer k ≡ only 0) where
  abbrev hs : List ℕ
  hs = k.holidays

  legal : LegalBasis k
  legal = open_legal k (number_is o)

  legal_year : {n : ℕ} → ReadRow (basis_edition k) k.sheet n → n ≡ 0 → HasYear (basis_edition k) (basis_year k)
  legal_year (malformed f) e = absurd (omega arith)
  legal_year (one f y) e = absurd (omega arith)
  legal_year (two f y l) e = absurd (omega arith)
  legal_year (full f y l w) e = absurd (omega arith)
  legal_year (zero f y l w) e = y

  shown : read_sheet (basis_edition k) k.sheet ≡ sheet_in k.sheet
  unfolding read_sheet
  shown = handed (read_answer (basis_edition k) k.sheet) (sheet_in k.sheet) _ ((read_exactly (basis_edition k) k.sheet 0).1 legal.read)

  module _ (d p : ℕ) (l : d < basis_days k) where
    answered : (calendar_answer (basis_edition k) (basis_year k) hs (d + 1)).number ≡ 0
    answered =
        (exactly (basis_edition k) (basis_year k) hs (d + 1) 0).1
        (zero (legal_year legal.read refl) legal.holidays (record { from = omega arith; to = omega arith }))

    kind_is : (calendar_answer (basis_edition k) (basis_year k) hs (d + 1)).figures ≡ kind_code (kind_of (basis_year k) hs (d + 1)) ∷ []
    kind_is = (carried.calendar k.editions (basis_year k) hs (d + 1)).listed ∙ simp (eq-eqb _ _ answered)

    by_answers :
        (in_window k d p ≡ true)
        ↔ (((calendar_answer (basis_edition k) (basis_year k) hs (d + 1)).figures ≡ 1 ∷ [])
        × (is_set (read_sheet (basis_edition k) k.sheet).windows (season_of (basis_year k) (d + 1)) (quarter_of (basis_run k) d p) ≡ true))
    unfolding set_on
    by_answers =
        rw (kind_is, shown) (
          (λ e. let b = both (carries (basis_year k) hs (d + 1)) _ e in ((code_one (kind_of (basis_year k) hs (d + 1))).1 b.0, b.1)),
          λ h. pair {a = carries (basis_year k) hs (d + 1)} ((code_one (kind_of (basis_year k) hs (d + 1))).0 h.0) h.1,
        )

-- M and S, by the readings
module _ (k : Basis) (xs : List ℕ) where
  peak_when : (b : ℕ) → ((basis_figures k xs).peak ≤ b) ↔ ((d p : ℕ) → d < basis_days k → p < day_len (basis_run k) d → reading (basis_run k) xs d p ≤ b)
  unfolding figures_of peak_of day_peak
  peak_when b = (
    λ h d p l m. le_trans (reading_le (basis_run k) xs (basis_days k) d p l m) h,
    λ low. largest_le (day_peak (basis_run k) xs) (basis_days k) b
        (λ d l. largest_le (reading (basis_run k) xs d) (day_len (basis_run k) d) b (λ p m. low d p l m)),
  )

  sum_is : LegalYear k xs → (basis_figures k xs).sum ≡ sum_over (λ i. get_or xs i 0) (length xs)
  unfolding figures_of
  sum_is l =
      sum_flat (basis_run k) xs (basis_days k)
      ∙ ap (sum_over (λ i. get_or xs i 0)) (ap (day_start (basis_run k)) (sym (year_run (basis_year k))) ∙ run_all (basis_run k) ∙ sym l.series.long)

pub eligibility : Eligibility ours
eligibility =
    record {
      peak = peak_when;
      sum = sum_is;
      in_window_law = λ k d p o l. by_answers k o d p l;
      eight = λ k xs l. eight_when k xs l;
      high = λ k xs d p y l h t. by_calendar k xs (first_place (basis_run k) (counts (terms k xs)) xs (basis_days k) (some_in k xs d p l h t));
    }
