-- The decision over a year's figures f under the rates r, by the numbers of an edition ed, in two halves: may the
-- customer pay the reduced charge, and what is it. Each call over figures gives the first number of its order that
-- holds. Rules 7.6, 7.7 and 8.2.
use Rattle.std.specs.Prelude.{Bool, true, cond, not, ℕ, ◌+◌, ◌-◌, ◌*◌, ltb}
use Rattle.answers.specs.declared.Edition.{Edition}
use Rattle.answers.specs.Edition.{whole_share}
use Rattle.answers.specs.Ruling.{least_move, least_reduction, share_of, level_out}
use Rattle.answers.specs.Said.{Said, only, or_else, yes_no}
use Rattle.tariff.specs.declared.Rates.{Rates}
use Rattle.tariff.specs.declared.Figures.{Figures}
use Rattle.tariff.specs.Prices.{prices_out}
use Rattle.tariff.specs.Charges.{general, charge, charges_of}
use Rattle.tariff.specs.Answers.{with_general, with_charges, with_plain, with_peaks, with_charge, plain_of, peaks_of, charged_of}

-- the charges alone, for any prices: 6, else 0 with g; 6, else 0 with c and g (Rule 8.2)
unfoldable pub general_answer : Edition → Figures → Rates → Said
general_answer ed f r = cond (prices_out r.prices) (only 6) (with_general (general ed f r))

unfoldable pub charges_answer : Edition → Figures → Rates → Said
charges_answer ed f r = cond (prices_out r.prices) (only 6) (with_charges (charges_of ed f r))

-- answer 8: the year has no in-window quarter (Rule 6.5)
abbrev pub no_window : Figures → Bool
no_window f = not f.any

-- M - H, in W: by how much the customer's load in the windows stays below the annual peak. 0 where H is above M, which
-- no year has.
abbrev pub moved : Figures → ℕ
moved f = f.peak - f.high

-- answer 9: the share of the level, a code from 1, is missed (Rule 7.6, test 1); equality passes
abbrev pub share_short : Edition → Figures → Rates → Bool
share_short ed f r = ltb (whole_share * moved f) (share_of ed r.level * f.peak)

-- answer 10: the move is less than the least move (Rule 7.6, test 2); equality passes
abbrev pub move_short : Edition → Figures → Bool
move_short ed f = ltb (moved f) (least_move ed)

-- answer 11: g is above c by less than the least reduction (Rule 7.6, test 3); equality passes
abbrev pub reduction_short : Edition → Figures → Rates → Bool
reduction_short ed f r = ltb (general ed f r) (charge ed f r + least_reduction ed)

-- the first half, for a legal level and legal prices: 8, 9, 10, else 0 with yes
unfoldable pub eligible_rules : Edition → Figures → Rates → Said
eligible_rules ed f r =
    cond (no_window f) (with_plain (plain_of f (general ed f r)))
    (cond (share_short ed f r) (with_peaks 9 (peaks_of f (general ed f r)))
    (cond (move_short ed f) (with_peaks 10 (peaks_of f (general ed f r)))
    (yes_no true)))

-- the second half, for legal prices: 8, 11, else 0 with the charge
unfoldable pub charge_rules : Edition → Figures → Rates → Said
charge_rules ed f r =
    cond (no_window f) (with_plain (plain_of f (general ed f r)))
    (cond (reduction_short ed f r) (with_peaks 11 (peaks_of f (general ed f r)))
    (with_charge (charged_of f (general ed f r) (charge ed f r))))

-- the whole, for a legal level and legal prices: the two halves in a row
unfoldable pub judge_rules : Edition → Figures → Rates → Said
judge_rules ed f r = or_else (eligible_rules ed f r) (charge_rules ed f r)

-- the three calls, for any level and any prices, 2 and 6 tested first; the second half needs no level, so it has no 2
-- (Rule 8.2)
unfoldable pub eligible_answer : Edition → Figures → Rates → Said
eligible_answer ed f r =
    cond (level_out r.level) (only 2) (cond (prices_out r.prices) (only 6) (eligible_rules ed f r))

unfoldable pub charge_answer : Edition → Figures → Rates → Said
charge_answer ed f r = cond (prices_out r.prices) (only 6) (charge_rules ed f r)

unfoldable pub judge_answer : Edition → Figures → Rates → Said
judge_answer ed f r =
    cond (level_out r.level) (only 2) (cond (prices_out r.prices) (only 6) (judge_rules ed f r))
