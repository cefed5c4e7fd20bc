-- The lines that the window program prints for an accepted file: a first line with year and level, then the lines of
-- each season. A run is a stretch of windows without a gap; it never goes over midnight. f tells which quarters of a
-- season are set. Quarters count from 0, seasons from 1 unless said otherwise. Rule 10.6.
use Rattle.std.specs.Prelude.{Bool, false, cond, not, ◌&&◌, ◌||◌, List, [], ◌∷◌, ◌++◌, ℕ, ◌+◌, ◌-◌, ◌*◌, ◌/◌, ◌%◌, eqb, get_or}
use Rattle.ranges.specs.Ranges.{any_over, first_over}
use Rattle.answers.specs.Ruling.{day_quarters}
use Rattle.encoding.specs.Bytes.{ascii}
use Rattle.sheet.specs.Windows.{seasons, is_set}
use Rattle.texts.specs.Text.{text_over}
use Rattle.lines.specs.Figures.{figures_line}

-- the word `HLZ` and a space; and the first line, with year and level
abbrev pub head_mark : List ℕ
head_mark = ascii "HLZ "

unfoldable pub head_line : ℕ → ℕ → List ℕ
head_line year level = head_mark ++ figures_line (year ∷ level ∷ [])

-- the byte of a digit, and two digits
abbrev pub digit : ℕ → ℕ
digit d = 48 + d

abbrev pub two : ℕ → List ℕ
two n = digit (n / 10) ∷ digit (n % 10) ∷ []

-- the time at which quarter q begins, as `hh:mm`; for 96 it is 24:00, where the day ends
unfoldable pub time_of : ℕ → List ℕ
time_of q = two (q / 4) ++ (ascii ":" ++ two (q % 4 * 15))

-- a run's line: the season's number, the time of its first quarter, and the time at which it ends
unfoldable pub run_line : ℕ → ℕ → ℕ → List ℕ
run_line season from to = (digit season ∷ ascii " ") ++ time_of from ++ ascii "-" ++ time_of to ++ ascii "\n"

-- the line of a season without windows: its number and `none`
abbrev pub none_line : ℕ → List ℕ
none_line season = digit season ∷ ascii " none\n"

-- which quarters are set, by a list that tells it of each
abbrev pub quarters : List Bool → ℕ → Bool
quarters set q = get_or set q false

-- a run begins at quarter q: the quarter is set, and it is the day's first or the one before is not set
abbrev pub begins : (ℕ → Bool) → ℕ → Bool
begins f q = f q && (eqb q 0 || not (f (q - 1)))

-- where the run from quarter q on ends: at the first quarter that is not set, or at 96, the end of the day
abbrev pub run_end : (ℕ → Bool) → ℕ → ℕ
run_end f q = q + first_over (λ j. not (f (q + j))) (day_quarters - q)

-- the line of the run that begins at quarter q, if one does
unfoldable pub run_text : ℕ → (ℕ → Bool) → ℕ → List ℕ
run_text season f q = cond (begins f q) (run_line season q (run_end f q)) []

-- a season's lines: those of its runs in the order of the day, or the one line that says none
unfoldable pub season_text : ℕ → (ℕ → Bool) → List ℕ
season_text season f = cond (any_over f day_quarters) (text_over (run_text season f) day_quarters) (none_line season)

-- the lines of the season at place k, from 0, which is season k + 1
abbrev pub season_in : List Bool → ℕ → List ℕ
season_in windows k = season_text (k + 1) (is_set windows (k + 1))

-- all that the window program prints for an accepted file
unfoldable pub windows_text : ℕ → ℕ → List Bool → List ℕ
windows_text year level windows = head_line year level ++ text_over (season_in windows) seasons
