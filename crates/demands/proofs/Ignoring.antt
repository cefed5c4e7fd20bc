-- No call of a module that meets the demands goes by one edition alone: under a list without a record calendar and
-- opening answer 1 where they answer 0 under today's; under one with limit 0 a sheet that is read under today's is
-- refused; under one with a line of 100 percent a season has other windows; and an edition with a larger least move and
-- least reduction refuses figures that today's accepts.
-- Assumes nothing.
use mathlib.Core.Path.{◌≡◌, refl, sym, ap, ◌∙◌}
use mathlib.Core.Logic.{◌↔◌}
use mathlib.Core.List.{List, [], ◌∷◌}
use Prim.Native.Nat.{ℕ, suc, ◌-◌, ◌/◌, ◌%◌, ◌^◌, ◌≤◌}
use native.Mathlib.Omega.{arith}
use lib.ListN.{length, get_or, take, replicate, length-replicate}
use Rattle.ranges.specs.Ranges.{joined, sum_over, count_over, any_over, table, in_base}
use Rattle.answers.specs.declared.Edition.{Edition}
use Rattle.answers.specs.Edition.{today, no_edition}
use Rattle.answers.specs.Ruling.{HasYear, share_of, lacks_year, level_out}
use Rattle.answers.specs.Said.{Said, only}
use Rattle.editions.specs.declared.Editions.{Editions}
use Rattle.editions.specs.Editions.{editions_most, no_editions, todays, edition_of}
use Rattle.editions.proofs.Picked.{has_edition, first_picked}
use Rattle.calendar.specs.Answer.DayRow.{one}
use Rattle.encoding.specs.Bytes.{two_at, other_mark}
use Rattle.sheet.specs.Windows.{set_in, too_full}
use Rattle.sheet.specs.Bytes.{sheet_size, windows_in, sheet_in}
use Rattle.sheet.specs.Answers.{read_answer}
use Rattle.sheet.specs.Rows.ReadRow.{malformed, one, two, full, zero}
use Rattle.sheet.specs.Rows.{ReadRow, WriteRow, Formed}
use Rattle.sheet.specs.Rows.WriteRow.{twelve}
use Rattle.sheet_read.specs.Editions.{sheet_edition}
use Rattle.grid.specs.Rows.OpenRow.{one}
use Rattle.tariff.specs.Decision.{moved}
use Rattle.tariff.proofs.Answered.{number_is}
use Rattle.tariff.proofs.Limits.{prices_legal}
use Rattle.tariff.proofs.Exactly.{judge_exactly}
use Rattle.tariff.specs.Rows.{Shared, JudgeRow, EligibleRow, ChargeRow}
use Rattle.tariff.specs.Rows.EligibleRow.{ten}
use Rattle.tariff.specs.Rows.ChargeRow.{eleven}
use Rattle.tariff.specs.Rows.JudgeRow.{two, six, eight, nine, ten, eleven, zero}
use Rattle.terms.specs.Basis.{Basis, basis_rates, basis_edition}
use Rattle.terms.specs.Opening.{customer_open_answer}
use Rattle.terms.specs.Rows.CustomerOpenRow.{sheet}
use Rattle.terms.proofs.Answered.{open_done}
use Rattle.terms.proofs.Exactly.{open_legal}
use Rattle.customer.specs.Answers.{decide_answer}
use Rattle.demands.specs.Module.{Module}
use Rattle.demands.specs.Editions.{under}
use Rattle.demands.specs.Fair.Given.{whole}
use Rattle.demands.specs.Demands.{Demands}
use Rattle.demands.specs.Wrong.{BothHave, IgnoresEditions}
use Rattle.demands.specs.Wrong.IgnoresEditions.{calendar, read, write, windows, grid_open_law, eligible, charge, judge, decide, customer_open_law}
use Rattle.demands.proofs.Answers.{exactly_when}
use Rattle.demands.proofs.Example.{example, example_year, example_edition, no_holidays, today_2025}
use Rattle.demands.proofs.Fair.{given_one}
use Rattle.demands.proofs.WrongWindows.{blank_buffer, same, has_2025, KeptBy, same_there, none_there, same_laid_by, same_window}
use Rattle.demands.proofs.WrongYears.{general_is, peak_is, high_is}
use Rattle.demands.proofs.Refusing.{second_january, read_example, opened_5, level_in, k, year, figures, lawful, judged_today, year_opened, year_accepted, sheet_written, grid_opened_law, eligible_row, charge_row, sheet as example_sheet}

-- a list without a record has no edition for any year
none : (y : ℕ) → HasYear (edition_of no_editions y) y → ⊥
none y h = let found = (has_edition no_editions y).0 h in omega (arith, found.at_in)

-- an answer with 0 is not one with another number
refused_there : {a b : Said} {n : ℕ} → a.number ≡ 0 → b.number ≡ suc n → a ≡ b → ⊥
refused_there p q e = absurd (omega (arith, p, q, number_is e))

-- the example's bytes have the form of a sheet
formed : {ed : Edition} {b : List ℕ} {n : ℕ} → ReadRow ed b n → n ≡ 0 → Formed b
formed (malformed f) e = absurd (omega arith)
formed (one f y) e = absurd (omega arith)
formed (two f y l) e = absurd (omega arith)
formed (full f y l w) e = absurd (omega arith)
formed (zero f y l w) e = f

example_formed : Formed example
example_formed = formed ((exactly_when.read todays example 0).0 (number_is read_example)) refl

room : sheet_size ≤ length blank_buffer
room = omega (arith, length-replicate {A = ℕ} sheet_size 0)

-- a stricter edition with a limit, and the list with it alone. With limit 40 it is a legal one; with limit 0 no sheet
-- with a window is read, and no loading takes it.
abbrev strict : ℕ → Edition
strict limit =
    record {
      first = 2014;
      last = 2028;
      line = 100;
      limit = limit;
      shares = today.shares;
      least_move = 1000000000;
      floor = 20;
      least_reduction = 1000000;
      hours = 2500;
    }

abbrev strictly : ℕ → Editions
strictly limit = record { count = 1; records = strict limit ∷ replicate (editions_most - 1) no_edition }

has_it : (limit : ℕ) → HasYear (strict limit) 2025
has_it limit = record { allowed = record { from = omega arith; to = omega arith }; own = record { from = omega arith; to = omega arith } }

picked : (limit : ℕ) → edition_of (strictly limit) 2025 ≡ strict limit
picked limit = first_picked (strictly limit) 2025 0 (omega arith) (has_it limit) (λ j l. absurd (omega arith))

picked_there : (limit : ℕ) → sheet_edition (strictly limit) example ≡ strict limit
picked_there limit = ap (edition_of (strictly limit)) example_year ∙ picked limit

have_2025 : (limit : ℕ) → BothHave todays (strictly limit) 2025
have_2025 limit = record { one = has_2025; other = rw (picked limit) (has_it limit) }

have_both : (limit : ℕ) → BothHave todays (strictly limit) (sheet_in example).year
have_both limit = rw example_year (have_2025 limit)

-- the example by it: read with limit 40, and with limit 0 refused
read_40 : read_answer (strict 40) example ≡ only 0
unfolding example read_answer other_mark two_at lacks_year level_out too_full set_in windows_in table in_base any_over count_over sum_over joined
read_40 = refl

read_0 : read_answer (strict 0) example ≡ only 12
unfolding example read_answer other_mark two_at lacks_year level_out too_full set_in windows_in table in_base any_over count_over sum_over joined
read_0 = refl

read_row : (limit n : ℕ) → read_answer (strict limit) example ≡ only n → ReadRow (sheet_edition (strictly limit) example) example n
read_row limit n e =
    let said : read_answer (sheet_edition (strictly limit) example) example ≡ only n = rw (picked_there limit) e in
    (exactly_when.read (strictly limit) example n).0 (number_is said)

full_row : {ed : Edition} {b : List ℕ} {n : ℕ} → ReadRow ed b n → n ≡ 12 → Formed b → WriteRow ed (sheet_in b) (length blank_buffer) 12
full_row (malformed f) e g = absurd (f g)
full_row (one f y) e g = absurd (omega arith)
full_row (two f y l) e g = absurd (omega arith)
full_row (full f y l w) e g = twelve room y l w
full_row (zero f y l w) e g = absurd (omega arith)

-- what it says to the accepted year: the move is too small, and the reduction
move_is : moved figures ≡ 1000000
move_is = omega (arith, peak_is 100 (omega arith) (omega arith), high_is 100 (omega arith) (omega arith))

record Strict : Type 0 where
  eligible_row : EligibleRow (strict 40) figures (basis_rates k) 10
  charge_row : ChargeRow (strict 40) figures (basis_rates k) 11
  judge_row : JudgeRow (strict 40) figures (basis_rates k) 10

stricter : {n : ℕ} → JudgeRow today figures (basis_rates k) n → n ≡ 0 → Strict
unfolding share_of
stricter (two a) e = absurd (omega arith)
stricter (six a b) e = absurd (omega arith)
stricter (eight h a) e = absurd (omega arith)
stricter (nine h a s) e = absurd (omega arith)
stricter (ten h s m) e = absurd (omega arith)
stricter (eleven h s m cut) e = absurd (omega arith)
stricter (zero h s m cut) e =
    let shared : Shared (strict 40) figures (basis_rates k) = record { some = s.some; share = s.share } in
    record {
      eligible_row = ten h shared (omega (arith, move_is));
      charge_row = eleven h.legal_prices s.some (omega (arith, general_is 100 (omega arith) (omega arith) (strict 40)));
      judge_row = ten h shared (omega (arith, move_is));
    }

refused_strictly : Strict
refused_strictly = stricter judged_today refl

-- the same year under the strict list: its sheet is read, and it is answered 10
abbrev strict_basis : Basis
strict_basis = under (strictly 40) k

opens_strictly : customer_open_answer strict_basis ≡ only 0
opens_strictly =
    let legal = open_legal k (number_is lawful.opens) in
    sym (open_done strict_basis (sym (rw (picked_there 40) read_40)) no_holidays ((prices_legal k.prices).1 legal.prices))

decided_strictly : (decide_answer strict_basis year).number ≡ 10
decided_strictly =
    number_is (given_one strict_basis (record { opens = opens_strictly; series = lawful.series }) whole)
    ∙ (judge_exactly (basis_edition strict_basis) figures (basis_rates k) 10).1 (rw (picked_there 40) refused_strictly.judge_row)

-- any module that meets the demands
module _ (m : Module) (d : Demands m) where
  -- the bit of quarter 0 of summer: set by today's edition, and not by the strict one
  abbrev Bit : List ℕ → Type 0
  Bit buffer = get_or (take sheet_size buffer) 32 0 / 2 ^ 7 % 2 ≡ 1

  bit_is :
      (es : Editions)
      → HasYear (edition_of es 2025) 2025
      → Bit (m.windows_laid es 2025 5 same blank_buffer) ↔ KeptBy (edition_of es 2025) same
  bit_is es has =
      let l = level_in 5 (omega arith) (omega arith) in
      let shown = d.sheets.read_so es (take sheet_size (m.windows_laid es 2025 5 same blank_buffer)) (number_is (same_laid_by m d 5 l es has).accepted) in
      let bit = shown.windows 3 0 (record { from = omega arith; to = omega arith }) (omega arith) in
      let window = same_window m d 5 l es has in
      ((λ b. window.0 (bit.0 b)), λ h. bit.1 (window.1 h))

  other_windows : m.windows_laid todays 2025 5 same blank_buffer ≡ m.windows_laid (strictly 40) 2025 5 same blank_buffer → ⊥
  other_windows e =
      let both = have_2025 40 in
      let set = (bit_is todays both.one).1 (rw today_2025 same_there) in
      none_there (strict 40) refl (rw (picked 40) at ((bit_is (strictly 40) both.other).0 (rw e at set)))

  -- the other calls: 0 by the one list or edition, and a refusal by the other
  other_calendar : m.calendar todays 2025 [] 2 ≡ m.calendar no_editions 2025 [] 2 → ⊥
  other_calendar =
      refused_there
      ((d.exactly_when.calendar todays 2025 [] 2 0).1 ((exactly_when.calendar todays 2025 [] 2 0).0 (rw today_2025 second_january)))
      ((d.exactly_when.calendar no_editions 2025 [] 2 1).1 (one (none 2025)))

  other_opening : m.grid_open todays 2025 5 ≡ m.grid_open no_editions 2025 5 → ⊥
  other_opening = refused_there (number_is (grid_opened_law m d 5 opened_5)) ((d.exactly_when.grid_open_law no_editions 2025 5 1).1 (one (none 2025)))

  other_reading : m.read todays example ≡ m.read (strictly 0) example → ⊥
  other_reading =
      refused_there
      ((d.exactly_when.read todays example 0).1 ((exactly_when.read todays example 0).0 (number_is read_example)))
      ((d.exactly_when.read (strictly 0) example 12).1 (read_row 0 12 read_0))

  other_writing : m.write todays example_sheet (length blank_buffer) ≡ m.write (strictly 0) example_sheet (length blank_buffer) → ⊥
  other_writing =
      refused_there (sheet_written m d)
      ((d.exactly_when.write (strictly 0) example_sheet (length blank_buffer) 12).1 (full_row (read_row 0 12 read_0) refl example_formed))

  other_year : m.customer_open k ≡ m.customer_open (under (strictly 0) k) → ⊥
  other_year =
      refused_there (number_is (year_opened m d))
      ((d.exactly_when.customer_open_law (under (strictly 0) k) 12).1 (sheet (read_row 0 12 read_0) (λ z. omega arith)))

  other_decision : m.decide k year ≡ m.decide strict_basis year → ⊥
  other_decision =
      refused_there (year_accepted m d)
      ((d.exactly_when.decide strict_basis year 10).1 ((exactly_when.decide strict_basis year 10).0 decided_strictly))

  other_eligibility : m.eligible today figures (basis_rates k) ≡ m.eligible (strict 40) figures (basis_rates k) → ⊥
  other_eligibility =
      refused_there ((d.exactly_when.eligible today figures (basis_rates k) 0).1 (eligible_row judged_today refl))
      ((d.exactly_when.eligible (strict 40) figures (basis_rates k) 10).1 refused_strictly.eligible_row)

  other_charge : m.charge today figures (basis_rates k) ≡ m.charge (strict 40) figures (basis_rates k) → ⊥
  other_charge =
      refused_there ((d.exactly_when.charge today figures (basis_rates k) 0).1 (charge_row judged_today refl))
      ((d.exactly_when.charge (strict 40) figures (basis_rates k) 11).1 refused_strictly.charge_row)

  other_judgement : m.judge today figures (basis_rates k) ≡ m.judge (strict 40) figures (basis_rates k) → ⊥
  other_judgement =
      refused_there ((d.exactly_when.judge today figures (basis_rates k) 0).1 judged_today)
      ((d.exactly_when.judge (strict 40) figures (basis_rates k) 10).1 refused_strictly.judge_row)

  pub ignoring_editions : IgnoresEditions m → ⊥
  ignoring_editions (calendar all) = other_calendar (all todays no_editions 2025 [] 2)
  ignoring_editions (read all) = other_reading (all todays (strictly 0) example (have_both 0))
  ignoring_editions (write all) = other_writing (all todays (strictly 0) example_sheet blank_buffer (have_both 0))
  ignoring_editions (windows all) = other_windows (all todays (strictly 40) 2025 5 same blank_buffer (have_2025 40))
  ignoring_editions (grid_open_law all) = other_opening (all todays no_editions 2025 5)
  ignoring_editions (eligible all) = other_eligibility (all today (strict 40) figures (basis_rates k))
  ignoring_editions (charge all) = other_charge (all today (strict 40) figures (basis_rates k))
  ignoring_editions (judge all) = other_judgement (all today (strict 40) figures (basis_rates k))
  ignoring_editions (decide all) =
      let limits = ap (λ (ed : Edition). ed.limit) example_edition ∙ ap (λ (ed : Edition). ed.limit) (sym (picked_there 40)) in
      other_decision (all (strictly 40) k year (have_both 40) limits)
  ignoring_editions (customer_open_law all) = other_year (all (strictly 0) k (have_both 0))
