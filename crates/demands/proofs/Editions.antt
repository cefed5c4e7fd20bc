-- The list of editions, taken from room `editions`; and calls go by the list only through the record that is picked.
-- Assumes nothing.
use mathlib.Core.Path.{◌≡◌, refl, ap, ◌∙◌}
use mathlib.Core.Bool.{Bool, true, false, cond, ◌||◌}
use mathlib.Core.List.{List, []}
use Prim.Native.Nat.{ℕ, ◌+◌, ◌<◌}
use native.Mathlib.Omega.{arith}
use lib.Dec.{leb}
use lib.ListN.{length, set}
use lib.Seq.{get_or-set_same, get_or-set_other}
use Rattle.answers.specs.declared.Edition.{Edition}
use Rattle.answers.specs.Edition.{today}
use Rattle.answers.specs.Ruling.{HasYear}
use Rattle.answers.specs.Said.{only}
use Rattle.editions.specs.declared.Editions.{Editions}
use Rattle.editions.specs.Editions.{editions_most, todays, no_record, record_at, edition_of, HasRecord}
use Rattle.editions.specs.Loading.{bad_edition, overlaps, load_answer, loaded_with, LoadRow}
use Rattle.editions.specs.Loading.Loads.{start, next}
use Rattle.editions.specs.Loading.LoadRow.{ninth, out, overlap, zero}
use Rattle.editions.proofs.Picked.{first_picked, has_edition, none_picked, todays_loaded, today_picked}
use Rattle.editions.proofs.Lists.{load_exactly, loaded_legal, picked_one, picks}
use Rattle.readings.specs.Part.{day_part}
use Rattle.calendar.specs.Answer.{calendar_answer}
use Rattle.sheet.specs.Answers.{read_answer, read_sheet, write_answer, written as sheetWritten}
use Rattle.grid.specs.Answers.{windows_answer, windows_buffer, grid_open_answer}
use Rattle.grid_days.specs.Days.{open_grid}
use Rattle.terms.specs.Basis.{Basis, basis_year, basis_edition, basis_rates, basis_sheet}
use Rattle.terms.specs.Opening.{customer_open_answer, terms_of}
use Rattle.customer.specs.Answers.{decide_answer}
use Rattle.customer_days.specs.Days.{open_customer}
use Rattle.demands.specs.Module.{ours}
use Rattle.demands.specs.Refusals.{Carries, zero_alone}
use Rattle.demands.specs.Editions.{Picking, Loadings, SameUnder, under}
use Rattle.demands.proofs.Sheets.{handed}

-- today's list has no record for a year that is none of today's edition
only_today : (y : ℕ) → HasRecord todays y → HasYear today y
only_today y r =
    let first : r.at ≡ 0 = omega (arith, r.at_in) in
    rw first at r.has

pub picking : Picking
picking =
    record {
      has = has_edition;
      none = none_picked;
      first = first_picked;
      legal = λ es loads. loaded_legal loads;
      one = λ es loads. picked_one loads;
      is = λ es loads. picks loads;
      todays_loads = rw (← todays_loaded) (next today start);
      todays_has = today_picked;
      todays_lacks = λ y n. none_picked todays y (λ r. n (only_today y r));
    }

-- a loading that is accepted
module _ (es : Editions) (ed : Edition) (z : (load_answer es ed).number ≡ 0) where
  abbrev longer : Editions
  longer = record { count = es.count + 1; records = set es.records es.count ed }

  loaded_is : loaded_with es ed ≡ longer
  unfolding loaded_with
  loaded_is = handed (load_answer es ed) longer es z

  few : es.count < editions_most
  few = go ((load_exactly es ed 0).0 z) refl
    where
      go : {n : ℕ} → LoadRow es ed n → n ≡ 0 → es.count < editions_most
      go (ninth h) e = absurd (omega arith)
      go (out h) e = absurd (omega arith)
      go (overlap h) e = absurd (omega arith)
      go (zero room l h) e = room

-- neither number of a loading has figures
pub load_listed : (es : Editions) (ed : Edition) → Carries (load_answer es ed) (zero_alone [])
unfolding load_answer
load_listed es ed = go (leb editions_most es.count || (bad_edition ed || overlaps es ed))
  where
    go : (t : Bool) → Carries (cond t (only 22) (only 0)) (zero_alone [])
    go true = record { listed = refl }
    go false = record { listed = refl }

pub loadings : Loadings ours
loadings =
    record {
      longer = λ es ed z. ap (λ (fs : Editions). fs.count) (loaded_is es ed z);
      last = λ es ed l z.
          ap (λ (fs : Editions). record_at fs es.count) (loaded_is es ed z)
          ∙ get_or-set_same es.records es.count ed no_record (omega (arith, few es ed z));
      others = λ es ed k z h.
          ap (λ (fs : Editions). record_at fs k) (loaded_is es ed z)
          ∙ get_or-set_other es.records es.count k ed no_record (λ e. absurd (omega (arith, e)));
    }

-- a basis with another list that picks the same record
module _ (fs : Editions) (k : Basis) (e : basis_edition k ≡ edition_of fs (basis_year k)) where
  opens_same : customer_open_answer k ≡ customer_open_answer (under fs k)
  unfolding customer_open_answer
  opens_same = rw e

  terms_same : terms_of k ≡ terms_of (under fs k)
  terms_same = λ i. record { edition = e i; rates = basis_rates k; windows = (basis_sheet k).windows; carrying = (terms_of k).carrying }

  decides_same : (xs : List ℕ) → decide_answer k xs ≡ decide_answer (under fs k) xs
  unfolding decide_answer
  decides_same xs = rw (opens_same, terms_same)

  opened_same : open_customer k ≡ open_customer (under fs k)
  unfolding open_customer
  opened_same = rw (opens_same, terms_same)

pub same_under : SameUnder ours
same_under =
    record {
      calendar = λ es fs y hs d e. ap (λ (ed : Edition). calendar_answer ed y hs d) e;
      part = λ es fs run xs day e. ap (λ (ed : Edition). day_part ed run xs day) e;
      read = λ es fs b e. ap (λ (ed : Edition). read_answer ed b) e;
      sheet_read_law = λ es fs b e. ap (λ (ed : Edition). read_sheet ed b) e;
      write = λ es fs s room e. ap (λ (ed : Edition). write_answer ed s room) e;
      written = λ es fs s buffer e. ap (λ (ed : Edition). sheetWritten ed s buffer) e;
      windows = λ es fs y level xs buffer e. ap (λ (ed : Edition). windows_answer ed y level xs (length buffer)) e;
      windows_laid_law = λ es fs y level xs buffer e. ap (λ (ed : Edition). windows_buffer ed y level xs buffer) e;
      grid_open_law = λ es fs y level e. ap (λ (ed : Edition). grid_open_answer ed y level) e;
      grid_opened_law = λ es fs y level e. ap (λ (ed : Edition). open_grid ed y level) e;
      decide = λ fs k xs e. decides_same fs k e xs;
      customer_open_law = λ fs k e. opens_same fs k e;
      customer_opened_law = λ fs k e. opened_same fs k e;
    }
