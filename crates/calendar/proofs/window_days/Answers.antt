use mathlib.Core.Path.{◌≡◌, refl, ap, ◌∙◌}
use native.Mathlib.Omega.{arith}
use denote.Enum.Bare.{sameb}
use Rattle.day_kinds.specs.contracts.DayKind.{the_type}
use Rattle.day_kinds.specs.declared.DayKind.{DayKind}
use Rattle.day_kinds.specs.declared.DayKind.TheVariants.{Windows, Weekend, Listed, Christmas, Bridge}
use Rattle.day_kinds.specs.Kinds.{is_windows, window_days}
use Rattle.ranges.proofs.Tables.{filled_none, filled_more, filled_all}
use Rattle.calendar.proofs.Marked.{by_marks}
use Rattle.calendar.proofs.window_days.Goals as goal

-- a kind is `Windows` where the definition says that the day carries them
same_windows : (kind : DayKind) → sameb the_type kind Windows ≡ is_windows kind
same_windows Windows = refl
same_windows Weekend = refl
same_windows Listed = refl
same_windows Christmas = refl
same_windows Bridge = refl

pub loop-k-preserved : goal.loop-k-preserved
loop-k-preserved c =
    filled_more c.loop-k.invariant (omega arith)
    (c.eq.ensures ∙ same_windows c.kind.result ∙ ap is_windows (c.kind.ensures ∙ by_marks _ _ _ _ c.marks-m.ensures (omega arith)))

pub returns : goal.returns
unfolding window_days
returns c = filled_all c.loop-k.invariant (omega arith)

pub loop-k-init : goal.loop-k-init
loop-k-init c = filled_none refl
