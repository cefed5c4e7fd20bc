-- The list of editions that a call goes by, es: how many records are loaded, and the records, the first at place 0; and
-- the edition of a year. Rules 2.1, 2.7 and 9.6.
use Rattle.std.specs.Prelude.{Bool, cond, not, [], ◌∷◌, ℕ, min, ◌-◌, ◌<◌, ltb, get_or, replicate}
use Rattle.ranges.specs.Ranges.{first_over}
use Rattle.answers.specs.declared.Edition.{Edition}
use Rattle.answers.specs.Edition.{today, no_edition}
use Rattle.answers.specs.Ruling.{lacks_year, HasYear}
use Rattle.editions.specs.declared.Editions.{Editions}

-- a list has at most eight records (Rule 2.7; request Twelve)
abbrev pub editions_most : ℕ
editions_most = 8

-- a list without a record, and the one that has today's edition first
abbrev pub no_editions : Editions
no_editions = record { count = 0; records = replicate editions_most no_edition }

abbrev pub todays : Editions
todays = record { count = 1; records = today ∷ replicate (editions_most - 1) no_edition }

-- how many records of a list count: in one that no call handed back the number of them may be above eight (Rule 9.6)
abbrev pub loaded_in : Editions → ℕ
loaded_in es = min editions_most es.count

-- the record at place k, from 0. No definition asks for a place behind the eighth; one that did would find an empty
-- record there, not even with shares.
abbrev pub no_record : Edition
no_record =
    record { first = 0; last = 0; line = 0; limit = 0; shares = []; least_move = 0; floor = 0; least_reduction = 0; hours = 0 }

abbrev pub record_at : Editions → ℕ → Edition
record_at es k = get_or es.records k no_record

-- the place of the first record that holds for the year (in a list that loadings made it is the only one, in another
-- one the first counts, Rule 9.6); the number of records where none does
unfoldable pub place_for : Editions → ℕ → ℕ
place_for es y = first_over (λ k. not (lacks_year (record_at es k) y)) (loaded_in es)

-- the edition of a year: that record; where there is none, the edition of no year
unfoldable pub edition_of : Editions → ℕ → Edition
edition_of es y = cond (ltb (place_for es y) (loaded_in es)) (record_at es (place_for es y)) no_edition

-- answer 1: the year has no edition (Rules 2.1 and 2.7)
abbrev pub year_out : Editions → ℕ → Bool
year_out es y = lacks_year (edition_of es y) y

-- some record of the list holds for the year
pub record HasRecord (es : Editions) (y : ℕ) : Type 0 where
  pub at : ℕ
  pub at_in : at < loaded_in es
  pub has : HasYear (record_at es at) y
