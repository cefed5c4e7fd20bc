-- `sheet_read::read_by` meets its contract, a law for each return; what the tests on the way have shown is read once.
-- Assumes nothing.
use mathlib.Core.Path.{◌≡◌, refl, sym, ◌∙◌}
use mathlib.Core.Bool.{false}
use mathlib.Core.List.{List}
use Prim.Native.Nat.{ℕ}
use native.Mathlib.Omega.{arith}
use lib.ListN.{get_or}
use Rattle.answers.specs.declared.Edition.{Edition}
use Rattle.answers.specs.Ruling.{lacks_year, level_out}
use Rattle.encoding.specs.Bytes.{two_at}
use Rattle.sheet.specs.Bytes.{year_at, level_at}
use Rattle.sheet.specs.Rows.{Formed}
use Rattle.ranges.proofs.Bools.{clash}
use Rattle.sheet.proofs.Bytes.{any_full}
use Rattle.sheet.proofs.Answered.{read_refused, read_taken, marked, read_form, read_year, read_level, read_full, read_accepted}
use Rattle.sheet_read.proofs.read_by.Goals.{Else-lacks_year, Else-level_out, Else-two_at-ne-FORMAT_VERSION}
use Rattle.sheet_read.proofs.read_by.Goals as goal

-- the bytes, where they have the version 1, and where the year is legal, too
abbrev versioned : Else-two_at-ne-FORMAT_VERSION → List ℕ
versioned e = e.args.b.now

abbrev dated : Else-lacks_year → List ℕ
dated e = e.args.b.now

-- the edition there
abbrev by : Else-lacks_year → Edition
by e = e.args.edition

formed_at : (e : Else-two_at-ne-FORMAT_VERSION) → Formed (versioned e)
formed_at e =
    record {
      size = omega arith;
      marked = (marked _).0 (sym e.other_mark.ensures ∙ e.if-other_mark.false);
      version = sym e.two_at.ensures ∙ e.if-two_at-ne-FORMAT_VERSION.false;
    }

legal_year : (e : Else-lacks_year) → lacks_year (by e) (two_at (dated e) year_at) ≡ false
legal_year e = rw e.two_at-year.ensures at (sym e.lacks_year.ensures ∙ e.if-lacks_year.false)

legal_level : (e : Else-level_out) → level_out (get_or e.args.b.now level_at 0) ≡ false
legal_level e = sym e.level_out.ensures ∙ e.if-level_out.false

pub returns-then-b-ne-SHEET_SIZE : goal.returns-then-b-ne-SHEET_SIZE
returns-then-b-ne-SHEET_SIZE c = read_refused _ _ (read_form _ _ (λ f. c.if-b-ne-SHEET_SIZE.true f.size)) refl

pub returns-then-other_mark : goal.returns-then-other_mark
returns-then-other_mark c =
    let other = sym c.other_mark.ensures ∙ c.if-other_mark.true in
    read_refused _ _ (read_form _ _ (λ f. clash other ((marked _).1 f.marked))) refl

pub returns-then-two_at-ne-FORMAT_VERSION : goal.returns-then-two_at-ne-FORMAT_VERSION
returns-then-two_at-ne-FORMAT_VERSION c =
    read_refused _ _ (read_form _ _ (λ f. c.if-two_at-ne-FORMAT_VERSION.true (c.two_at.ensures ∙ f.version))) refl

pub returns-then-lacks_year : goal.returns-then-lacks_year
returns-then-lacks_year c =
    let w = goal.at.returns-then-lacks_year c in
    let out = rw c.two_at-year.ensures at (sym c.lacks_year.ensures ∙ c.if-lacks_year.true) in
    read_refused _ _ (read_year _ _ (formed_at w.Else-two_at-ne-FORMAT_VERSION) out) refl

pub returns-then-level_out : goal.returns-then-level_out
returns-then-level_out c =
    let w = goal.at.returns-then-level_out c in
    let out = sym c.level_out.ensures ∙ c.if-level_out.true in
    read_refused _ _ (read_level _ _ (formed_at w.Else-two_at-ne-FORMAT_VERSION) (legal_year w.Else-lacks_year) out) refl

pub returns-then-bytes_full : goal.returns-then-bytes_full
returns-then-bytes_full c =
    let w = goal.at.returns-then-bytes_full c in
    let full = sym (c.bytes_full.ensures ∙ any_full _ _) ∙ c.if-bytes_full.true in
    read_refused _ _ (read_full _ _ (formed_at w.Else-two_at-ne-FORMAT_VERSION) (legal_year w.Else-lacks_year) (legal_level w.Else-level_out) full) refl

pub returns : goal.returns
returns c =
    let w = goal.at.returns c in
    let roomy = sym (c.bytes_full.ensures ∙ any_full _ _) ∙ c.if-bytes_full.false in
    rw (c.two_at-year.ensures, c.unpack-windows.ensures)
    (read_taken _ _ (read_accepted _ _ (formed_at w.Else-two_at-ne-FORMAT_VERSION) (legal_year w.Else-lacks_year) (legal_level w.Else-level_out) roomy))
