-- What each number of a decision says: the figures that follow it, in the order of the table of answers, and the number
-- of each case of the code's answer. M is `peak` and H is `high`, both in W; S is `sum`; H's place is `day`, from 1,
-- and `quarter`, from 0. Charges are in cent. Rule 8.1.
use Rattle.std.specs.Prelude.{true, List, [], ◌∷◌, ◌++◌, ℕ, get_or, Result, Ok, Err}
use Rattle.answers.specs.Said.{Said, only, bad_place, yes_no}
use Rattle.tariff.specs.declared.Figures.{Figures}
use Rattle.tariff.specs.declared.Plain.{Plain}
use Rattle.tariff.specs.declared.Peaks.{Peaks}
use Rattle.tariff.specs.declared.Charged.{Charged}
use Rattle.tariff.specs.declared.TwoCharges.{TwoCharges}
use Rattle.tariff.specs.declared.PricesOut.{PricesOut}
use Rattle.tariff.specs.declared.Decision.{Decision}
use Rattle.tariff.specs.declared.Decision.TheVariants.{Accepted, Eligible, Taken, YearOut, LevelOut, BadHolidays, WrongLength, BadReading, PriceOut, NoWindow, ShareShort, MoveShort, ReductionShort, Malformed, DayOut}

-- g, M, S: the figures of 8
abbrev pub plain_figures : Plain → List ℕ
plain_figures a = a.general ∷ a.peak ∷ a.sum ∷ []

-- g, M, S, H, day, quarter: the figures of 9, 10 and 11
abbrev pub peaks_figures : Peaks → List ℕ
peaks_figures a = plain_figures a.plain ++ (a.high ∷ a.day ∷ a.quarter ∷ [])

-- c, g, M, S, H, day, quarter: the figures of 0, where the customer is accepted
abbrev pub charged_figures : Charged → List ℕ
charged_figures a = a.charge ∷ peaks_figures a.peaks

-- 8 with its figures; 9, 10 or 11 with theirs; 0 with the charge c first
abbrev pub with_plain : Plain → Said
with_plain a = record { number = 8; figures = plain_figures a }

abbrev pub with_peaks : ℕ → Peaks → Said
with_peaks n a = record { number = n; figures = peaks_figures a }

abbrev pub with_charge : Charged → Said
with_charge a = record { number = 0; figures = charged_figures a }

-- the number and the figures of each case of the code's answer
abbrev pub said_of : Decision → Said
said_of (Accepted a) = with_charge a
said_of Eligible = yes_no true
said_of Taken = only 0
said_of YearOut = only 1
said_of LevelOut = only 2
said_of BadHolidays = only 3
said_of WrongLength = only 4
said_of (BadReading place) = bad_place place
said_of PriceOut = only 6
said_of (NoWindow a) = with_plain a
said_of (ShareShort a) = with_peaks 9 a
said_of (MoveShort a) = with_peaks 10 a
said_of (ReductionShort a) = with_peaks 11 a
said_of Malformed = only 12
said_of DayOut = only 13

-- the same for the calls that ask for charges alone: 0 with g; 0 with c and g; 6
abbrev pub with_general : ℕ → Said
with_general g = record { number = 0; figures = g ∷ [] }

abbrev pub with_charges : TwoCharges → Said
with_charges a = record { number = 0; figures = a.charge ∷ a.general ∷ [] }

abbrev pub said_of_general : Result ℕ PricesOut → Said
said_of_general (Ok g) = with_general g
said_of_general (Err _) = only 6

abbrev pub said_of_charges : Result TwoCharges PricesOut → Said
said_of_charges (Ok a) = with_charges a
said_of_charges (Err _) = only 6

-- the figures of an answer, taken from those of the year, f, its general charge g and its charge c
abbrev pub plain_of : Figures → ℕ → Plain
plain_of f g = record { general = g; peak = f.peak; sum = f.sum }

abbrev pub peaks_of : Figures → ℕ → Peaks
peaks_of f g = record { plain = plain_of f g; high = f.high; day = f.day; quarter = f.quarter }

abbrev pub charged_of : Figures → ℕ → ℕ → Charged
charged_of f g c = record { charge = c; peaks = peaks_of f g }

-- what the customer pays by an answer (Rule 7.7): c by 0, g by 8 to 11; in each of these it is the first figure. The
-- first figure of any other answer is no payment.
abbrev pub payable : Said → ℕ
payable a = get_or a.figures 0 0
