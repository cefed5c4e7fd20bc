-- The cases of a machine that reads a file, each with the code's answer on the left: what it wants, and what a
-- field, a day and the end do to it.
-- Assumes nothing.
use mathlib.Core.Path.{◌≡◌, refl, sym, ap, ◌∙◌}
use mathlib.Core.Bool.{Bool, true, false, cond}
use mathlib.Core.List.{List}
use Prim.Native.Nat.{ℕ, ◌+◌, ◌*◌, ◌≤◌, ◌<◌}
use native.Mathlib.Omega.{arith}
use borrow.Author.Tests.{lt-ltb, le-ltb, eq-eqb, ne_eqb}
use lib.Dec.{eqb}
use lib.ListN.{length, take}
use lib.Seq.{paste}
use Rattle.ranges.specs.Ranges.{table}
use Rattle.encoding.specs.Bytes.{four_at, laid}
use Rattle.encoding.proofs.Bytes.{laid_whole}
use Rattle.readings.proofs.Runs.{len_most}
use Rattle.fields.specs.declared.Span.{Span}
use Rattle.fields.specs.declared.Stage.{Stage}
use Rattle.fields.specs.declared.Stage.TheVariants.{Going, Refused, Complete}
use Rattle.fields.specs.Layout.{start_of, field_span, Fits}
use Rattle.readings.specs.Runs.{day_len, most_readings}
use Rattle.fields.specs.Series.{reading_bytes, readings_of}
use Rattle.fields.specs.Stages.{going, stage_of, day_stage}
use Rattle.fields.specs.Machine.{Reader, layout_in, field_size, next_size, wants, head_with, number_with, field_fed, day_in, day_given, day_fed, end_fed, fed}
use Rattle.fields.proofs.Bytes.{readings_held}
use Rattle.fields.proofs.Header.{span_width}

module _ {S : Type 0} (r : Reader S) (s : S) where
  -- a machine that has ended wants nothing and stays
  module _ (g : going (r.stage s) ≡ false) where
    pub wants_none : 0 ≡ wants r s
    unfolding wants
    wants_none = rw g

    pub fed_none : (b : List ℕ) → s ≡ fed r s b
    unfolding fed
    fed_none b = rw g

  module _ (g : going (r.stage s) ≡ true) where
    -- in the header
    module _ (l : r.field s < (layout_in r s).count) where
      pub wants_field : field_size r s ≡ wants r s
      unfolding wants
      wants_field = rw (g, lt-ltb (r.field s) (layout_in r s).count l)

      pub fed_field : (b : List ℕ) → field_fed r s b ≡ fed r s b
      unfolding fed
      fed_field b = rw (g, lt-ltb (r.field s) (layout_in r s).count l)

    module _ (l : (layout_in r s).count ≤ r.field s) where
      -- in the days
      module _ (m : r.seen s < r.days s) where
        pub wants_day : next_size r s ≡ wants r s
        unfolding wants
        wants_day = rw (g, le-ltb (r.field s) (layout_in r s).count l, lt-ltb (r.seen s) (r.days s) m)

        pub fed_day : (b : List ℕ) → day_fed r s b ≡ fed r s b
        unfolding fed
        fed_day b = rw (g, le-ltb (r.field s) (layout_in r s).count l, lt-ltb (r.seen s) (r.days s) m)

      -- at the end
      module _ (m : r.days s ≤ r.seen s) where
        pub wants_end : 1 ≡ wants r s
        unfolding wants
        wants_end = rw (g, le-ltb (r.field s) (layout_in r s).count l, le-ltb (r.seen s) (r.days s) m)

        pub fed_end : (b : List ℕ) → end_fed r s b ≡ fed r s b
        unfolding fed
        fed_end b = rw (g, le-ltb (r.field s) (layout_in r s).count l, le-ltb (r.seen s) (r.days s) m)

  module _ (b : List ℕ) where
    -- a field; the header after it, by the place and the size that the code works out
    pub field_cut : length b < field_size r s → r.ended s (Refused 12) ≡ field_fed r s b
    unfolding field_fed
    field_cut l = rw (lt-ltb (length b) (field_size r s) l)

    pub head_with_law :
        {next : List ℕ} {at size : ℕ}
        → at ≡ start_of (layout_in r s) (r.field s)
        → size ≡ field_size r s
        → at + size ≤ length (r.head s)
        → size ≤ length b
        → next ≡ laid (r.head s) at (take size b)
        → next ≡ head_with r s b
    head_with_law {at = at} {size = size} e f room has g =
        g ∙ laid_whole (r.head s) at b size room has ∙ (λ i. paste (r.head s) (e i) b (f i))

    module _ {next : List ℕ} (l : field_size r s ≤ length b) (e : next ≡ head_with r s b) where
      pub field_refused : {n : ℕ} → n ≡ (r.layout s next).refusal (r.field s) → (n ≡ 0 → ⊥) → r.ended s (Refused n) ≡ field_fed r s b
      unfolding field_fed
      field_refused {n} k z =
          let m : n ≡ number_with r s b = k ∙ ap (λ (d : List ℕ). (r.layout s d).refusal (r.field s)) e in
          simp (le-ltb (length b) (field_size r s) l, ← m, ne_eqb n 0 z)

      pub field_taken : (r.layout s next).refusal (r.field s) ≡ 0 → r.headed s next ≡ field_fed r s b
      unfolding field_fed
      field_taken z =
          let m : number_with r s b ≡ 0 = ap (λ (d : List ℕ). (r.layout s d).refusal (r.field s)) (sym e) ∙ z in
          simp (le-ltb (length b) (field_size r s) l, eq-eqb _ 0 m) (ap (r.headed s) e)

    -- a day; its readings are the first in the bytes, as many as the code asks for
    pub day_cut : length b < next_size r s → r.ended s (Refused 4) ≡ day_fed r s b
    unfolding day_fed
    day_cut l = rw (lt-ltb (length b) (next_size r s) l)

    pub day_held : next_size r s ≤ length b → day_given r s (day_in r s b) ≡ day_fed r s b
    unfolding day_fed
    day_held l = rw (le-ltb (length b) (next_size r s) l)

    pub day_read :
        {n : ℕ} {all : List ℕ}
        → n ≡ day_len (r.run s) (r.seen s)
        → all ≡ table (λ i. four_at b (reading_bytes * i)) most_readings
        → reading_bytes * n ≤ length b
        → day_given r s (take n all) ≡ day_fed r s b
    day_read {n} e f l =
        let few = len_most (r.run s) (r.seen s) in
        let day = readings_held b n (omega arith) l ∙ ap (λ (m : ℕ). readings_of (take (reading_bytes * m) b)) e in
        ap (day_given r s) (ap (take n) f ∙ day) ∙ day_held (omega arith)

    -- what comes after the last day
    pub end_left : 0 < length b → r.ended s (Refused 4) ≡ end_fed r s b
    unfolding end_fed
    end_left l = ap (λ (t : Bool). r.ended s (cond t (Refused 4) Complete)) (sym (lt-ltb 0 (length b) l))

    pub end_done : length b ≡ 0 → r.ended s Complete ≡ end_fed r s b
    unfolding end_fed
    end_done l = ap (λ (t : Bool). r.ended s (cond t (Refused 4) Complete)) (sym (le-ltb 0 (length b) (omega arith)))

  -- by the span of the next field, which the code has asked for
  module _ {most size : ℕ} {p : Span} (fit : Fits (layout_in r s) most size (r.field s)) (e : p ≡ field_span (layout_in r s) (r.field s)) where
    module _ (b : List ℕ) where
      pub span_cut : length b < p.width → r.ended s (Refused 12) ≡ field_fed r s b
      span_cut l = field_cut b (omega (arith, span_width fit e))

      module _ (l : p.width ≤ length b) where
        pub span_held : field_size r s ≤ length b
        span_held = omega (arith, span_width fit e)

        pub span_laid : {next : List ℕ} → length (r.head s) ≡ size → next ≡ laid (r.head s) p.start (take p.width b) → next ≡ head_with r s b
        span_laid long =
            let at = ap (λ (x : Span). x.start) e in
            head_with_law b at (span_width fit e) (omega (arith, at, span_width fit e, fit.room)) l

  -- a day's readings, given to the machine of days
  module _ (day : List ℕ) where
    given_refused : eqb (r.said s day).number 0 ≡ false → r.ended s (stage_of (r.said s day)) ≡ day_given r s day
    unfolding day_given
    given_refused z = rw z

    given_taken : eqb (r.said s day).number 0 ≡ true → r.added s day ≡ day_given r s day
    unfolding day_given
    given_taken z = rw z

    -- a machine whose days hand back what they were given where they refuse: it changes its stage alone
    pub given_staged :
        (next : Stage → S)
        → (eqb (r.said s day).number 0 ≡ true → next Going ≡ r.added s day)
        → (eqb (r.said s day).number 0 ≡ false → next (stage_of (r.said s day)) ≡ r.ended s (stage_of (r.said s day)))
        → next (day_stage (r.said s day)) ≡ day_given r s day
    given_staged next taken refused = go (eqb (r.said s day).number 0) refl
      where
        go : (t : Bool) → eqb (r.said s day).number 0 ≡ t → next (day_stage (r.said s day)) ≡ day_given r s day
        go true z = (λ i. next (cond (z i) Going (stage_of (r.said s day)))) ∙ taken z ∙ given_taken z
        go false z = (λ i. next (cond (z i) Going (stage_of (r.said s day)))) ∙ refused z ∙ given_refused z

    module _ (b : List ℕ) (l : next_size r s ≤ length b) (e : day ≡ day_in r s b) where
      pub day_refused : eqb (r.said s day).number 0 ≡ false → r.ended s (stage_of (r.said s day)) ≡ day_fed r s b
      day_refused z = given_refused z ∙ ap (day_given r s) e ∙ day_held b l

      pub day_taken_law : eqb (r.said s day).number 0 ≡ true → r.added s day ≡ day_fed r s b
      day_taken_law z = given_taken z ∙ ap (day_given r s) e ∙ day_held b l
