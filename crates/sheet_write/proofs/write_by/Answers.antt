-- `sheet_write::write_by` meets its contract, a law for each return; a refusal leaves the buffer as it was.
-- Assumes nothing.
use mathlib.Core.Path.{◌≡◌, refl, sym, ◌∙◌}
use mathlib.Core.Bool.{false}
use native.Mathlib.Omega.{arith}
use Rattle.answers.specs.declared.Edition.{Edition}
use Rattle.answers.specs.Ruling.{lacks_year, level_out}
use Rattle.sheet.specs.declared.Sheet.{Sheet}
use Rattle.sheet.proofs.Answered.{write_refused, write_taken, write_short, write_year, write_level, write_full, write_accepted}
use Rattle.sheet_write.proofs.write_by.Goals.{Else-lacks_year, Else-level_out}
use Rattle.sheet_write.proofs.write_by.Goals as goal

-- the sheet, where its year is legal
abbrev dated : Else-lacks_year → Sheet
dated e = e.args.sheet

-- the edition there
abbrev by : Else-lacks_year → Edition
by e = e.args.edition

year_at : (e : Else-lacks_year) → lacks_year (by e) (dated e).year ≡ false
year_at e = sym e.lacks_year.ensures ∙ e.if-lacks_year.false

level_at : (e : Else-level_out) → level_out (e.args.sheet).level ≡ false
level_at e = sym e.level_out.ensures ∙ e.if-level_out.false

pub returns-then-out-lt-SHEET_SIZE : goal.returns-then-out-lt-SHEET_SIZE
returns-then-out-lt-SHEET_SIZE c = let a = c.args in write_refused _ a.sheet _ (write_short _ a.sheet _ (omega arith)) refl

pub returns-then-lacks_year : goal.returns-then-lacks_year
returns-then-lacks_year c =
    let a = c.args in
    write_refused _ a.sheet _ (write_year _ a.sheet _ (omega arith) (sym c.lacks_year.ensures ∙ c.if-lacks_year.true)) refl

pub returns-then-level_out : goal.returns-then-level_out
returns-then-level_out c =
    let w = goal.at.returns-then-level_out c in
    write_refused _ (dated w.Else-lacks_year) _
    (write_level _ (dated w.Else-lacks_year) _ (omega arith) (year_at w.Else-lacks_year) (sym c.level_out.ensures ∙ c.if-level_out.true)) refl

pub returns-then-too_full : goal.returns-then-too_full
returns-then-too_full c =
    let w = goal.at.returns-then-too_full c in
    let full = sym c.too_full.ensures ∙ c.if-too_full.true in
    write_refused _ (dated w.Else-lacks_year) _
    (write_full _ (dated w.Else-lacks_year) _ (omega arith) (year_at w.Else-lacks_year) (level_at w.Else-level_out) full) refl

pub returns : goal.returns
returns c =
    let w = goal.at.returns c in
    let roomy = sym c.too_full.ensures ∙ c.if-too_full.false in
    write_taken _ (dated w.Else-lacks_year) _ _
    (write_accepted _ (dated w.Else-lacks_year) _ (omega arith) (year_at w.Else-lacks_year) (level_at w.Else-level_out) roomy) c.fill.ensures
