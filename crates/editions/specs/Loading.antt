-- Loading the record ed into the list es: 22 for a ninth record, for one out of its ranges, for one that ends before it
-- begins, and for one that overlaps a loaded one; else 0, and the record stands behind the others. A refused loading
-- leaves the list as it was. Rules 2.7, 8.1 and 8.3.
use Rattle.std.specs.Prelude.{Bool, cond, ◌&&◌, ◌||◌, List, ℕ, ◌+◌, ◌≤◌, ◌<◌, leb, ltb, get_or, set, Result, Ok, Err, ⊤}
use Rattle.ranges.specs.Limits.{outside}
use Rattle.ranges.specs.Ranges.{any_over}
use Rattle.answers.specs.declared.Edition.{Edition}
use Rattle.answers.specs.Edition.{whole_share}
use Rattle.answers.specs.Ruling.{editions_from, editions_to, last_level, day_quarters, least_move, least_reduction, move_most, reduction_most, hours_most, LegalEdition}
use Rattle.answers.specs.Said.{Said, only, after}
use Rattle.editions.specs.declared.Editions.{Editions}
use Rattle.editions.specs.declared.NotLoaded.{NotLoaded}
use Rattle.editions.specs.Editions.{editions_most, no_editions, loaded_in, record_at}

-- the number of each case of the code's answer
abbrev pub said_of_loading : Result ⊤ NotLoaded → Said
said_of_loading (Ok _) = only 0
said_of_loading (Err _) = only 22

-- out of its ranges: the years, and in their order; a share; every other number
unfoldable pub bad_years : Edition → Bool
bad_years ed = (ltb ed.first editions_from || ltb ed.last ed.first) || ltb editions_to ed.last

unfoldable pub bad_shares : List ℕ → Bool
bad_shares shares = any_over (λ k. ltb whole_share (get_or shares k 0)) last_level

unfoldable pub bad_numbers : Edition → Bool
bad_numbers ed =
    ((((outside 1 day_quarters ed.limit
    || ltb whole_share ed.line)
    || ltb whole_share ed.floor)
    || ltb move_most (least_move ed))
    || ltb reduction_most (least_reduction ed))
    || ltb hours_most ed.hours

unfoldable pub bad_edition : Edition → Bool
bad_edition ed = (bad_years ed || bad_shares ed.shares) || bad_numbers ed

-- each of two records begins no later than the other ends: two that do not end before they begin have a year in common
abbrev pub meets : Edition → Edition → Bool
meets a b = leb a.first b.last && leb b.first a.last

-- the record overlaps one that is loaded
unfoldable pub overlaps : Editions → Edition → Bool
overlaps es ed = any_over (λ k. meets (record_at es k) ed) (loaded_in es)

-- what loading answers, and the list then
unfoldable pub load_answer : Editions → Edition → Said
load_answer es ed = cond (leb editions_most es.count || (bad_edition ed || overlaps es ed)) (only 22) (only 0)

unfoldable pub loaded_with : Editions → Edition → Editions
loaded_with es ed = after (load_answer es ed) (record { count = es.count + 1; records = set es.records es.count ed }) es

-- The same by ≤ and <. Two records are apart: one ends before the other begins. A record overlaps one of the loaded
-- ones, at place `at`, from 0: each begins no later than the other ends.
pub data Apart (a b : Edition) : Type 0 where
  before : a.last < b.first → Apart a b
  behind : b.last < a.first → Apart a b

pub record Overlap (es : Editions) (ed : Edition) : Type 0 where
  pub at : ℕ
  pub at_in : at < loaded_in es
  pub begins : (record_at es at).first ≤ ed.last
  pub ends : ed.first ≤ (record_at es at).last

pub data LoadRow (es : Editions) (ed : Edition) : ℕ → Type 0 where
  ninth : editions_most ≤ es.count → LoadRow es ed 22
  out : (LegalEdition ed → ⊥) → LoadRow es ed 22
  overlap : Overlap es ed → LoadRow es ed 22
  zero : es.count < editions_most → LegalEdition ed → ((k : ℕ) → k < loaded_in es → Apart (record_at es k) ed) → LoadRow es ed 0

-- the lists that loadings make, from a list without a record on
pub data Loads : Editions → Type 0 where
  start : Loads no_editions
  next : {es : Editions} (ed : Edition) → Loads es → Loads (loaded_with es ed)
