-- A customer's year as a machine of days (readings, Machines): days that are offered one by one, refused ones among
-- them, close as the whole series of the taken days; and where the whole series answers 5, the days before are taken
-- and that day answers the same place.
-- Assumes nothing.
use mathlib.Core.Path.{◌≡◌, refl, sym, ap, ◌∙◌}
use mathlib.Core.List.{List, [], ◌++◌}
use Prim.Native.Nat.{ℕ, ◌+◌, ◌*◌, ◌≤◌, ◌<◌}
use native.Mathlib.Omega.{arith}
use borrow.Author.Tests.{le-ltb}
use Rattle.ranges.specs.Ranges.{sum_over}
use Rattle.ranges.proofs.Sums.{sum_le}
use Rattle.answers.specs.declared.Edition.{Edition}
use Rattle.answers.specs.Ruling.{customer_most}
use Rattle.answers.specs.Said.{Said, only, bad_place}
use Rattle.dates.specs.Dates.{year_days}
use Rattle.readings.specs.declared.Run.{Run}
use Rattle.readings.specs.declared.Run.TheVariants.{Year}
use Rattle.readings.specs.Runs.{run_days, day_len, reading}
use Rattle.readings.specs.Days.{series_answer, next_answer, BadThere, AsWhole}
use Rattle.readings.proofs.Runs.{len_most, year_run}
use Rattle.readings.proofs.Legal.{reading_le}
use Rattle.readings.proofs.Days.{Read, same_before, same_day, series_bad}
use Rattle.readings.proofs.Illegal.{some_illegal_in}
use Rattle.readings.proofs.Machines.{Machine, as_whole, same_bad}
use Rattle.tariff.specs.declared.Figures.{Figures}
use Rattle.tariff.specs.Rows.{JudgeRow}
use Rattle.tariff.specs.Rows.JudgeRow.{two, six, eight, nine, ten, eleven, zero}
use Rattle.terms.specs.declared.Terms.{Terms}
use Rattle.terms.specs.Basis.{Basis, basis_year}
use Rattle.terms.specs.Opening.{customer_open_answer, terms_of}
use Rattle.day_figures.specs.Day.{alone}
use Rattle.customer_days.specs.declared.Customer.{Customer}
use Rattle.customer.specs.Counts.{counts}
use Rattle.figures.specs.Figures.{sum_of, figures_of, record_of, taken_in}
use Rattle.customer.specs.Answers.{figures_under, whole_answer, decide_answer}
use Rattle.customer_days.specs.Days.{fresh_customer, open_customer, sum_most, customer_day_answer, day_customer, customer_close_answer}
use Rattle.customer.specs.Rows.{SeriesRow}
use Rattle.customer.specs.Rows.SeriesRow.{four, five, judged}
use Rattle.customer.proofs.Exactly.{series_exactly}
use Rattle.figures.proofs.Taken.{figures_none, taken_more}
use Rattle.figures.proofs.Agree.{figures_cong}
use Rattle.customer.proofs.Answered.{whole_series, whole_judged, decide_whole}
use Rattle.customer_days.proofs.Steps.{opened_state, day_refused, day_taken_law, day_next, close_judged}

-- the sum of legal days is one that days can have
pub legal_sum : (run : Run) (xs : List ℕ) (n : ℕ) → Read run customer_most xs n → sum_of run xs n ≤ sum_most n
unfolding sum_of
legal_sum run xs n r = omega (arith, sum_le (λ d. sum_over (reading run xs d) (day_len run d)) n (100 * customer_most) each)
  where
    each : (d : ℕ) → d < n → sum_over (reading run xs d) (day_len run d) ≤ 100 * customer_most
    each d l =
        let all = sum_le (reading run xs d) (day_len run d) customer_most (λ p m. omega (arith, reading_le run xs n d p l m, r.legal)) in
        omega (arith, r.legal, len_most run d, all)

module _ (t : Terms) where
  abbrev run : Run
  run = Year t.rates.year

  -- the state that holds the n days of some readings
  abbrev pub holding : List ℕ → ℕ → Customer
  holding xs n = record { terms = t; seen = n; figures = figures_under t xs n }

  pub opens_holding : fresh_customer t ≡ holding [] 0
  opens_holding = λ i. record { terms = t; seen = 0; figures = figures_none run (counts t) [] i }

  -- one day more
  module _ (xs : List ℕ) (n : ℕ) (r : Read run customer_most xs n) (day : List ℕ) where
    says_next : customer_day_answer (holding xs n) day ≡ next_answer run customer_most n day
    unfolding figures_of
    says_next = sym (day_next (holding xs n) day (le-ltb _ _ (legal_sum run xs n r)) refl)

    taken_next : taken_in (figures_under t xs n) (n + 1) (record_of (day_len run n) (counts t n) (alone day)) ≡ figures_under t (xs ++ day) (n + 1)
    taken_next =
        ap (λ (f : Figures). taken_in f (n + 1) (record_of (day_len run n) (counts t n) (alone day)))
        (sym (figures_cong run (counts t) xs (xs ++ day) n (λ d p h m. sym (same_before run xs day n r.long d p h m))))
        ∙ taken_more run (counts t) (xs ++ day) n (alone day) (λ p m. same_day run xs day n r.long p)

  pub machine : Machine run customer_most customer_day_answer day_customer holding
  machine =
      record {
        says = says_next;
        keeps = λ xs n day z. sym (day_refused (holding xs n) day _ z refl);
        takes = λ xs n r day l e.
            sym (day_taken_law (holding xs n) day (sym e) refl)
            ∙ (λ i. record { terms = t; seen = n + 1; figures = taken_next xs n r day i });
      }

  -- the state that holds all days of a legal series closes as the whole series
  pub closes_holding :
      (xs : List ℕ)
      → only 0 ≡ series_answer run customer_most xs
      → customer_close_answer (holding xs (run_days run)) ≡ whole_answer t xs
  closes_holding xs e =
      ap (λ (n : ℕ). customer_close_answer (holding xs n)) (year_run t.rates.year)
      ∙ sym (close_judged (holding xs (year_days t.rates.year)) refl refl)
      ∙ whole_judged t xs e

  -- the decision over figures never answers 5
  pub judge_five : {ed : Edition} {f : Figures} {n : ℕ} → JudgeRow ed f t.rates n → n ≡ 5 → ⊥
  judge_five (two l) e = omega arith
  judge_five (six l q) e = omega arith
  judge_five (eight l a) e = omega arith
  judge_five (nine l a s) e = omega arith
  judge_five (ten l s m) e = omega arith
  judge_five (eleven l s m g) e = omega arith
  judge_five (zero l s m g) e = omega arith

  -- so 5 comes from the series
  series_five : (xs : List ℕ) → (whole_answer t xs).number ≡ 5 → series_answer run customer_most xs ≡ whole_answer t xs
  series_five xs e = go ((series_exactly t xs 5).0 e) refl
    where
      go : {n : ℕ} → SeriesRow t xs n → n ≡ 5 → series_answer run customer_most xs ≡ whole_answer t xs
      go (four l) k = absurd (omega arith)
      go (five l v) k = let bad = series_bad run customer_most xs l ((some_illegal_in run customer_most xs).1 v) in sym bad ∙ whole_series t xs _ refl bad
      go (judged l r) k = absurd (judge_five r k)

-- an accepted opening
module _ (k : Basis) (o : customer_open_answer k ≡ only 0) where
  opens : open_customer k ≡ holding (terms_of k) [] 0
  opens = sym (opened_state k (sym o)) ∙ opens_holding (terms_of k)

  -- Rule 9.4: the same answer
  pub days_whole : AsWhole (Year (basis_year k)) customer_most customer_day_answer day_customer (open_customer k) customer_close_answer (decide_answer k)
  days_whole =
      as_whole (machine (terms_of k)) customer_close_answer (decide_answer k)
      (λ xs legal. closes_holding (terms_of k) xs legal ∙ decide_whole k xs (sym o)) (open_customer k) opens

  -- where the whole call answers 5 at a day and a position, the days before are taken, and that day answers the same
  pub same_place :
      (xs : List ℕ) (d q : ℕ)
      → decide_answer k xs ≡ bad_place (record { day = d + 1; position = q })
      → BadThere (Year (basis_year k)) customer_day_answer day_customer (open_customer k) xs d q
  same_place xs d q e =
      let w : whole_answer (terms_of k) xs ≡ bad_place (record { day = d + 1; position = q }) = decide_whole k xs (sym o) ∙ e in
      rw opens (same_bad (machine (terms_of k)) xs d q (series_five (terms_of k) xs (ap (λ (s : Said). s.number) w) ∙ w))
