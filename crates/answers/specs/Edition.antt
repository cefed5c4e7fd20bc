-- The numbers that an amendment of the ruling may change, as one record for each edition of it: the struct `Edition`
-- of this crate's code. A definition that needs one of them takes the record, ed, and reads it there; `today` is the
-- ruling as it is. A call that has a year picks the record from the list that it is given (`edition_of`, room
-- `editions`). The ruling is BK4-13-739, by numbers and letters of its operative part, the ordinance is the StromNEV.
-- Rules 2.1, 2.3, 2.7, 4.4, 4.5, 6.6, 7.4 and 7.6.
use Rattle.std.specs.Prelude.{[], ◌∷◌, ℕ}
use Rattle.answers.specs.declared.Edition.{Edition}

-- line, shares and floor are whole percents: 100 of them are all of the peak, of M, of the general charge
abbrev pub whole_share : ℕ
whole_share = 100

-- hours of use are held against a sum of readings, and an hour has four of them (Rule 6.6)
abbrev pub hour_quarters : ℕ
hour_quarters = 4

abbrev pub today : Edition
today =
    record {
      -- charge years: the ruling holds from 1 January 2014 on (ruling 6), and the ordinance ends with 2028 (Rule 2.7)
      first = 2014;
      last = 2028;
      -- the line, in percent of the peak (Rule 4.4; ruling 2.d)
      line = 95;
      -- a season's windows are at most 40 quarters, ten hours a day (Rule 4.5; ruling 2.e)
      limit = 40;
      -- the share of the annual peak that a customer must keep out of the windows, in percent, by level, the first is
      -- level 1 (Rule 2.3; ruling 2.g)
      shares = 5 ∷ 10 ∷ 10 ∷ 20 ∷ 20 ∷ 30 ∷ 30 ∷ [];
      -- the least move, in W (Rule 7.6; ruling 2.g)
      least_move = 100000;
      -- the floor, in percent of the general charge (Rule 7.4; ordinance § 19(2) sentence 1)
      floor = 20;
      -- the least reduction, in cent (Rule 7.6; ruling 2.j)
      least_reduction = 50000;
      -- with fewer hours of use prices are those of the low row (Rule 6.6; ordinance § 2 no. 3, annex 4 no. 4)
      hours = 2500;
    }

-- the edition of no year, where none is picked: zeros
abbrev pub no_edition : Edition
no_edition =
    record {
      first = 0;
      last = 0;
      line = 0;
      limit = 0;
      shares = 0 ∷ 0 ∷ 0 ∷ 0 ∷ 0 ∷ 0 ∷ 0 ∷ [];
      least_move = 0;
      floor = 0;
      least_reduction = 0;
      hours = 0;
    }
