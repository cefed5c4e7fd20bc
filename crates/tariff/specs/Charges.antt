-- Hours of use, and the charges in cent, of a year with the figures f under the rates r, by the numbers of an edition
-- ed. M is `f.peak`, S is `f.sum`, H is `f.high`. Rules 6.6 and 7.1 to 7.5.
use Rattle.std.specs.Prelude.{Bool, cond, not, ◌&&◌, ℕ, ◌+◌, ◌-◌, ◌*◌, ◌/◌, max, ltb}
use Rattle.answers.specs.declared.Edition.{Edition}
use Rattle.answers.specs.Edition.{whole_share, hour_quarters}
use Rattle.tariff.specs.declared.Row.{Row}
use Rattle.tariff.specs.declared.Prices.{Prices}
use Rattle.tariff.specs.declared.Rates.{Rates}
use Rattle.tariff.specs.declared.Figures.{Figures}
use Rattle.tariff.specs.declared.TwoCharges.{TwoCharges}

-- fewer hours of use than the edition's: S is less than four times these hours times M. There is no division, so a year
-- of zeros (M 0) has an answer, too: not fewer. (Rule 6.6)
abbrev pub few_hours : Edition → Figures → Bool
few_hours ed f = ltb f.sum (hour_quarters * ed.hours * f.peak)

-- the low row where `low` is set, else the high row (Rule 2.5)
abbrev pub row_of : Prices → Bool → Row
row_of p low = cond low p.few p.many

-- Charges are added up in parts, of which a cent has 4,000,000. One part is what one W in one quarter costs at a price
-- of a thousandth of a cent for one kWh. One W of capacity costs 4,000 parts at a price of one cent for one kW a year.
-- (Rule 7.1)
abbrev pub cent_parts : ℕ
cent_parts = 4000000

abbrev pub capacity_parts : ℕ
capacity_parts = 4000

-- what a capacity figure in W and a sum of readings cost by a row of prices, in parts of a cent, not rounded: the
-- numerator of Rule 7.1
abbrev pub parts_for : ℕ → Row → ℕ → ℕ
parts_for power row sum = capacity_parts * power * row.capacity + sum * row.energy

-- the same in whole cents: rounded once, at the end, and half a cent goes up (Rule 7.1)
unfoldable pub charge_for : ℕ → Row → ℕ → ℕ
charge_for power row sum = (parts_for power row sum + cent_parts / 2) / cent_parts

-- no charge with legal prices, a capacity figure of 32 bits and a sum of 64 bits is above this (`charge_most_law`):
-- so the code's sums fit 64 bits
abbrev pub charge_most : ℕ
charge_most = 1000000000000000000

-- the general charge g: for M, in the row that the hours of use choose (Rule 7.2)
unfoldable pub general : Edition → Figures → Rates → ℕ
general ed f r = charge_for f.peak (row_of r.prices (few_hours ed f)) f.sum

-- the reduced charge r: for H, in the row of g; only with the option and fewer hours of use than the edition's it is
-- the high row instead (Rule 7.3)
unfoldable pub reduced : Edition → Figures → Rates → ℕ
reduced ed f r = charge_for f.high (row_of r.prices (few_hours ed f && not r.option)) f.sum

-- the floor: the smallest number of whole cents that is no less than the edition's percentage of g (Rule 7.4)
unfoldable pub floor_of : Edition → ℕ → ℕ
floor_of ed g = (ed.floor * g + (whole_share - 1)) / whole_share

-- the charge c: the reduced charge or the floor, whichever is larger (Rule 7.5)
unfoldable pub charge : Edition → Figures → Rates → ℕ
charge ed f r = max (reduced ed f r) (floor_of ed (general ed f r))

-- c and g together: the decision needs both
abbrev pub charges_of : Edition → Figures → Rates → TwoCharges
charges_of ed f r = record { charge = charge ed f r; general = general ed f r }
