-- Loading, exactly: each number is answered where its row holds; and what holds of every list that loadings made: its
-- records are legal and apart, so that at most one holds for a year, which is the one that is picked.
-- Assumes nothing.
use mathlib.Core.Path.{◌≡◌, refl, sym, ◌∙◌, ap}
use mathlib.Core.Bool.{true, false, ◌||◌, or-true, and-false, cond}
use mathlib.Core.Logic.{◌↔◌, ⊎_elim}
use Rattle.std.specs.Prelude.{Result, Ok, Err, ⊤}
use Prim.Native.Nat.{ℕ, ◌+◌, ◌-◌, ◌≤◌, ◌<◌}
use native.Mathlib.Decide.{dec_lt}
use native.Mathlib.Omega.{arith}
use borrow.Author.Tests.{leb-true, leb-false, ltb-true, ltb-false, le-leb, lt-leb, le-ltb}
use lib.Dec.{leb, ltb, eqb}
use lib.ListN.{length, get_or, set, length-set}
use lib.Seq.{get_or-set_same, get_or-set_other}
use Rattle.ranges.specs.Ranges.{first_over}
use Rattle.ranges.proofs.Bools.{decided, both, pair, either, neither, clash, within}
use Rattle.ranges.proofs.Tests.{all_passed, any_fails, any_at}
use Rattle.ranges.proofs.First.{any_first, first_holds}
use Rattle.answers.specs.declared.Edition.{Edition}
use Rattle.answers.specs.Edition.{whole_share}
use Rattle.answers.specs.Ruling.{editions_from, last_level, share_of, HasYear, LegalEdition}
use Rattle.answers.specs.Said.{Said}
use Rattle.answers.proofs.Laws.{one_answer}
use Rattle.editions.specs.declared.Editions.{Editions}
use Rattle.editions.specs.declared.NotLoaded.{NotLoaded}
use Rattle.editions.specs.Editions.{editions_most, loaded_in, no_record, record_at, edition_of}
use Rattle.editions.specs.Loading.Loads.{start, next}
use Rattle.editions.specs.Loading.Apart.{before, behind}
use Rattle.editions.specs.Loading.LoadRow.{ninth, out, overlap, zero}
use Rattle.editions.specs.Loading.{said_of_loading, bad_years, bad_shares, bad_numbers, bad_edition, meets, overlaps, load_answer, Apart, Overlap, LoadRow, Loads}
use Rattle.editions.proofs.Picked.{first_picked}
use Rattle.editions.proofs.Refused.{above, meeting, said_full, said_refused, said_loaded}

-- a record is refused exactly when it is not legal
legal : (ed : Edition) → bad_edition ed ≡ false → LegalEdition ed
unfolding bad_edition bad_years bad_shares bad_numbers share_of
legal ed e =
    let first = neither _ _ e in
    let years-shares = neither _ _ first.0 in
    let years = neither _ _ years-shares.0 in
    let hours = neither _ _ first.1 in
    let reduction = neither _ _ hours.0 in
    let move = neither _ _ reduction.0 in
    let floor = neither _ _ move.0 in
    let line = neither _ _ floor.0 in
    record {
      begins = ltb-false _ _ (neither _ _ years.0).0;
      ordered = ltb-false _ _ (neither (ltb ed.first editions_from) _ years.0).1;
      ends = ltb-false _ _ years.1;
      line = ltb-false _ _ line.1;
      limit = (within _ _ _).0 line.0;
      shares = λ level h. ltb-false _ _ ((all_passed (above ed.shares) last_level years-shares.1).fails (level - 1) (omega arith));
      move = ltb-false _ _ move.1;
      floor = ltb-false _ _ floor.1;
      reduction = ltb-false _ _ reduction.1;
      hours = ltb-false _ _ hours.1;
    }

share_low : (ed : Edition) → LegalEdition ed → (k : ℕ) → k < last_level → get_or ed.shares k 0 ≤ whole_share
unfolding share_of
share_low ed h k l = let e : k + 1 - 1 ≡ k = omega arith in rw e at (h.shares (k + 1) (record { from = omega arith; to = omega arith }))

not_bad : (ed : Edition) → LegalEdition ed → bad_edition ed ≡ false
unfolding bad_edition bad_years bad_shares bad_numbers
not_bad ed h =
    rw (
      le-ltb _ _ h.begins,
      le-ltb _ _ h.ordered,
      le-ltb _ _ h.ends,
      any_fails (above ed.shares) last_level (λ k l. le-ltb _ _ (low k l)),
      (within _ _ _).1 h.limit,
      le-ltb _ _ h.line,
      le-ltb _ _ h.floor,
      le-ltb _ _ h.move,
      le-ltb _ _ h.reduction,
      le-ltb _ _ h.hours,
    )
  where
    low : (k : ℕ) → k < last_level → get_or ed.shares k 0 ≤ whole_share
    low k l = share_low ed h k l

pub legal_edition : (ed : Edition) → (bad_edition ed ≡ false) ↔ LegalEdition ed
legal_edition ed = (legal ed, not_bad ed)

-- two records do not meet exactly when they are apart
pub records_apart : (a b : Edition) → (meets a b ≡ false) ↔ Apart a b
records_apart a b = (from, to)
  where
    from : meets a b ≡ false → Apart a b
    from e = ⊎_elim (λ p. before (leb-false _ _ (rw p at e))) (λ p. behind (leb-false _ _ p)) (decided (leb a.first b.last))

    to : Apart a b → meets a b ≡ false
    to (before h) = rw (lt-leb b.first a.last h) (and-false (leb a.first b.last))
    to (behind h) = rw (lt-leb a.first b.last h)

-- each number is answered exactly when its row holds
module _ (es : Editions) (ed : Edition) where
  -- no loaded record meets the new one exactly when all are apart from it; one does, at its place, where it overlaps
  all_apart : overlaps es ed ≡ false → (k : ℕ) → k < loaded_in es → Apart (record_at es k) ed
  unfolding overlaps
  all_apart e k h = (records_apart (record_at es k) ed).0 ((all_passed (meeting es.records ed) (loaded_in es) e).fails k h)

  one_meets : overlaps es ed ≡ true → Overlap es ed
  unfolding overlaps
  one_meets e =
      let p = meeting es.records ed in
      let n = loaded_in es in
      let h = ltb-true _ _ (sym (any_first p n) ∙ e) in
      let orders = both _ _ (first_holds p n h) in
      record {
        at = first_over p n;
        at_in = h;
        begins = leb-true _ _ orders.0;
        ends = leb-true _ _ orders.1;
      }

  meets_one : Overlap es ed → overlaps es ed ≡ true
  unfolding overlaps
  meets_one o =
      any_at (meeting es.records ed) (loaded_in es) o.at o.at_in
      (pair (le-leb _ _ o.begins) (le-leb _ _ o.ends))

  no_overlap : ((k : ℕ) → k < loaded_in es → Apart (record_at es k) ed) → overlaps es ed ≡ false
  unfolding overlaps
  no_overlap h = any_fails (meeting es.records ed) (loaded_in es) (λ k l. (records_apart (record_at es k) ed).1 (h k l))

  holds : LoadRow es ed (load_answer es ed).number
  holds =
      ⊎_elim (λ p. rw (← (said_full es ed (leb-true _ _ p)).0) (ninth (leb-true _ _ p))) (λ a.
      let room = leb-false editions_most es.count a in
      ⊎_elim (λ p. rw (← (said_refused es ed room p).0)
      (⊎_elim (λ q. out (λ l. clash q ((legal_edition ed).1 l))) (λ q. overlap (one_meets q)) (either _ _ p))) (λ b.
      let good = neither _ _ b in
      rw (← (said_loaded es ed room b).0) (zero room ((legal_edition ed).0 good.0) (all_apart good.1)))
      (decided (bad_edition ed || overlaps es ed))) (decided (leb editions_most es.count))

  refused : (bad_edition ed || overlaps es ed) ≡ true → (load_answer es ed).number ≡ 22
  refused e =
      ⊎_elim (λ p. rw (← (said_full es ed (leb-true _ _ p)).0)) (λ a. rw (← (said_refused es ed (leb-false _ _ a) e).0))
      (decided (leb editions_most es.count))

  given : {n : ℕ} → LoadRow es ed n → (load_answer es ed).number ≡ n
  given (ninth h) = rw (← (said_full es ed h).0)
  given (out h) =
      refused (⊎_elim (λ p. rw p) (λ p. absurd (h ((legal_edition ed).0 p))) (decided (bad_edition ed)))
  given (overlap h) =
      refused (rw (meets_one h) (or-true (bad_edition ed)))
  given (zero room l h) = rw (← (said_loaded es ed room (rw ((legal_edition ed).1 l, no_overlap h))).0)

  pub load_exactly : (n : ℕ) → ((load_answer es ed).number ≡ n) ↔ LoadRow es ed n
  load_exactly n = (λ e. rw e at holds, given)

-- a loaded list has its eight places, and its records are legal and apart
pub record Sound (es : Editions) : Type 0 where
  pub places : length es.records ≡ editions_most
  pub room : es.count ≤ editions_most
  pub legal_each : (k : ℕ) → k < es.count → LegalEdition (record_at es k)
  pub apart_each : (j k : ℕ) → j < k → k < es.count → Apart (record_at es j) (record_at es k)

-- the record behind the others, and the others, once one more is loaded
module _ (es : Editions) (ed : Edition) (l : length es.records ≡ editions_most) (room : es.count < editions_most) where
  abbrev more : Editions
  more = record { count = es.count + 1; records = set es.records es.count ed }

  new_at : record_at more es.count ≡ ed
  new_at = get_or-set_same es.records es.count ed no_record (omega arith)

  old_at : (k : ℕ) → k < es.count → record_at more k ≡ record_at es k
  old_at k h = get_or-set_other es.records es.count k ed no_record (λ e. absurd (omega (arith, e)))

  -- record k of the longer list is the new one, or an old one
  each_of : (P : Edition → Type 0) (k : ℕ) → k < es.count + 1 → P ed → (k < es.count → P (record_at es k)) → P (record_at more k)
  each_of P k h new old = go (dec_lt k es.count)
    where
      go : Dec (k < es.count) → P (record_at more k)
      go (yes m) = rw (old_at k m) (old m)
      go (no m) = let e : k ≡ es.count = omega arith in rw (e, new_at) new

  pub more_sound : Sound es → LegalEdition ed → ((k : ℕ) → k < loaded_in es → Apart (record_at es k) ed) → Sound more
  more_sound s new new_apart =
      record {
        places = length-set es.records es.count ed ∙ l;
        room = omega arith;
        legal_each = λ k h. each_of LegalEdition k h new (s.legal_each k);
        apart_each =
            λ j k lower h.
            rw (old_at j (omega arith))
            (each_of (Apart (record_at es j)) k h (new_apart j (omega arith)) (s.apart_each j k lower));
      }

sound : {es : Editions} → Loads es → Sound es
sound start =
    record { places = refl; room = omega arith; legal_each = λ k h. absurd (omega arith); apart_each = λ j k l h. absurd (omega arith) }
sound (next {es} ed loads) =
    let s = sound loads in
    ⊎_elim (λ p. rw (← (said_full es ed (leb-true _ _ p)).1) s) (λ a.
    let room = leb-false editions_most es.count a in
    ⊎_elim (λ p. rw (← (said_refused es ed room p).1) s) (λ b.
    let good = neither _ _ b in
    rw (← (said_loaded es ed room b).1) (more_sound es ed s.places room s ((legal_edition ed).0 good.0) (all_apart es ed good.1)))
    (decided (bad_edition ed || overlaps es ed))) (decided (leb editions_most es.count))

-- two records of a year are not apart
not_apart : (a b : Edition) (y : ℕ) → HasYear a y → HasYear b y → Apart a b → ⊥
not_apart a b y h k (before l) = absurd (omega (arith, h.own, k.own))
not_apart a b y h k (behind l) = absurd (omega (arith, h.own, k.own))

-- a list that loadings made
module _ {es : Editions} (loads : Loads es) where
  -- every record is legal
  pub loaded_legal : (k : ℕ) → k < loaded_in es → LegalEdition (record_at es k)
  loaded_legal k h = (sound loads).legal_each k (omega arith)

  -- at most one record holds for a year
  pub picked_one : (y j k : ℕ) → j < loaded_in es → k < loaded_in es → HasYear (record_at es j) y → HasYear (record_at es k) y → j ≡ k
  picked_one y j k hj hk a b = go (dec_lt j k) (dec_lt k j)
    where
      go : Dec (j < k) → Dec (k < j) → j ≡ k
      go (yes l) r = absurd (not_apart _ _ y a b ((sound loads).apart_each j k l (omega arith)))
      go (no l) (yes m) = absurd (not_apart _ _ y b a ((sound loads).apart_each k j m (omega arith)))
      go (no l) (no m) = omega arith

  -- and it is the one that is picked
  pub picks : (y k : ℕ) → k < loaded_in es → HasYear (record_at es k) y → edition_of es y ≡ record_at es k
  picks y k h a =
      first_picked es y k h a (λ j l b.
      let same = picked_one y j k (omega arith) h b a in
      absurd (omega (arith, same)))

-- an answer, back from what it says: so nothing else meets the promise of `load`
abbrev load_back : Said → Result ⊤ NotLoaded
load_back a = cond (eqb a.number 0) (Ok tt) (Err (record {}))

back : (a : Result ⊤ NotLoaded) → load_back (said_of_loading a) ≡ a
back (Ok _) = refl
back (Err _) = refl

pub load_only :
    {x : Said} {es : Editions} {r s : Result ⊤ NotLoaded} {a b : Editions}
    → (said_of_loading r ≡ x) × (a ≡ es)
    → (said_of_loading s ≡ x) × (b ≡ es)
    → (r ≡ s) × (a ≡ b)
load_only {r = r} {s = s} p q =
    (sym (back r) ∙ ap load_back (one_answer p.0 q.0) ∙ back s, one_answer p.1 q.1)
