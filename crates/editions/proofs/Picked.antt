-- Which record is picked: the first that holds for the year, and the edition of no year where none does; an edition
-- that is picked holds for the year exactly where some record does; and today's list.
-- Assumes nothing.
use mathlib.Core.Path.{◌≡◌, refl, sym, ap, ◌∙◌}
use mathlib.Core.Bool.{Bool, true, not}
use mathlib.Core.Logic.{◌↔◌, ⊎_elim}
use mathlib.Core.List.{List}
use Prim.Native.Nat.{ℕ, ◌<◌}
use native.Mathlib.Omega.{arith}
use borrow.Author.Tests.{lt-ltb, le-ltb, ltb-true}
use lib.ListN.{length, take, get_or}
use lib.Seq.{length-take-le, get_or-take}
use Rattle.ranges.specs.Ranges.{joined, any_over, first_over}
use Rattle.ranges.proofs.Bools.{decided, clash}
use Rattle.ranges.proofs.Tests.{Passed, passed_none, all_passed, any_at}
use Rattle.ranges.proofs.First.{first_at, first_fails, first_holds, first_below, any_first}
use Rattle.answers.specs.declared.Edition.{Edition}
use Rattle.answers.specs.Edition.{today, no_edition}
use Rattle.answers.specs.Ruling.{lacks_year, HasYear}
use Rattle.answers.proofs.Laws.{has_year}
use Rattle.editions.specs.declared.Editions.{Editions}
use Rattle.editions.specs.Editions.{editions_most, no_editions, todays, loaded_in, no_record, record_at, place_for, edition_of, HasRecord}
use Rattle.editions.specs.Loading.{bad_years, bad_shares, bad_numbers, bad_edition, overlaps, load_answer, loaded_with}

-- the records that count, as a part of the list's eight places
pub record Counted (es : Editions) (records : List Edition) : Type 0 where
  pub long : length records ≡ loaded_in es
  pub each : (k : ℕ) → k < loaded_in es → get_or records k no_record ≡ record_at es k

pub counted : (es : Editions) (n : ℕ) → length es.records ≡ editions_most → n ≡ loaded_in es → Counted es (take n es.records)
counted es n l e =
    record {
      long = length-take-le n es.records (omega arith) ∙ e;
      each = λ k h. get_or-take n es.records k no_record (omega arith);
    }

-- does the record at place k, from 0, of some records hold for the year?
abbrev pub holding : List Edition → ℕ → ℕ → Bool
holding records y k = not (lacks_year (get_or records k no_record) y)

module _ (es : Editions) (y : ℕ) where
  -- that test, and what it says
  pub has_holding : (k : ℕ) → holding es.records y k ≡ true → HasYear (record_at es k) y
  has_holding k e = (has_year (record_at es k) y).0 (⊎_elim (λ p. absurd (clash e (ap not p))) (λ p. p) (decided (lacks_year (record_at es k) y)))

  pub holding_has : (k : ℕ) → HasYear (record_at es k) y → holding es.records y k ≡ true
  holding_has k h = ap not ((has_year (record_at es k) y).1 h)

  -- the first record that holds is picked
  pub picked_at :
      (k : ℕ)
      → k < loaded_in es
      → holding es.records y k ≡ true
      → Passed (holding es.records y) k
      → edition_of es y ≡ record_at es k
  unfolding edition_of place_for
  picked_at k h e before =
      let at = first_at (holding es.records y) (loaded_in es) k h e before.fails in
      rw at (rw (lt-ltb k (loaded_in es) h) refl)

  pub picked_none : (k : ℕ) → k ≡ loaded_in es → Passed (holding es.records y) k → edition_of es y ≡ no_edition
  unfolding edition_of place_for
  picked_none k e before =
      let at = first_fails (holding es.records y) (loaded_in es) (rw e at before).fails in
      rw at (rw (le-ltb (loaded_in es) (loaded_in es) (omega arith)) refl)

  -- so it is, where no record before it holds for the year
  pub first_picked :
      (k : ℕ)
      → k < loaded_in es
      → HasYear (record_at es k) y
      → ((j : ℕ) → j < k → HasYear (record_at es j) y → ⊥)
      → edition_of es y ≡ record_at es k
  first_picked k h a before =
      picked_at k h (holding_has k a)
      (record { fails = λ j l. ⊎_elim (λ p. absurd (before j l (has_holding j p))) (λ p. p) (decided (holding es.records y j)) })

-- the edition of no year has none
no_year : (y : ℕ) → HasYear no_edition y → ⊥
no_year y h = absurd (omega (arith, h.allowed, h.own))

-- the edition of a year holds for it exactly where some record does
module _ (es : Editions) (y : ℕ) where
  found : any_over (holding es.records y) (loaded_in es) ≡ true → first_over (holding es.records y) (loaded_in es) < loaded_in es
  found e = ltb-true _ _ (sym (any_first (holding es.records y) (loaded_in es)) ∙ e)

  pub has_edition : HasYear (edition_of es y) y ↔ HasRecord es y
  has_edition = (from, to)
    where
      from : HasYear (edition_of es y) y → HasRecord es y
      from h =
          let p = holding es.records y in
          let n = loaded_in es in
          ⊎_elim (λ e. record { at = first_over p n; at_in = found e; has = has_holding es y (first_over p n) (first_holds p n (found e)) })
          (λ e. absurd (no_year y (rw (picked_none es y n refl (all_passed p n e)) at h)))
          (decided (any_over p n))

      to : HasRecord es y → HasYear (edition_of es y) y
      to r =
          let p = holding es.records y in
          let n = loaded_in es in
          let l = found (any_at p n r.at r.at_in (holding_has es y r.at r.has)) in
          let e = first_holds p n l in
          rw (picked_at es y (first_over p n) l e (record { fails = λ j h. first_below p n j h })) (has_holding es y (first_over p n) e)

  -- where none does, every list gives the same edition
  pub none_picked : (HasRecord es y → ⊥) → edition_of es y ≡ no_edition
  none_picked h =
      picked_none es y (loaded_in es) refl
      (record {
        fails = λ k l.
            ⊎_elim (λ p. absurd (h (record { at = k; at_in = l; has = has_holding es y k p }))) (λ p. p)
            (decided (holding es.records y k));
      })

-- today's list: it is what loading today's edition into a list without a record gives, and it has today's edition in
-- every year of it
pub todays_loaded : loaded_with no_editions today ≡ todays
unfolding loaded_with load_answer bad_edition bad_years bad_shares bad_numbers overlaps any_over joined
todays_loaded = refl

pub today_picked : (y : ℕ) → HasYear today y → edition_of todays y ≡ today
today_picked y h = picked_at todays y 0 (omega arith) (holding_has todays y 0 h) passed_none
