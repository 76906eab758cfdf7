use Rattle.std.proofs.Common.{◌+◌, ◌∙◌, sym, ap, arith}
use Rattle.std.proofs.lemmas.List.{get_or_default}
use Rattle.action_core.specs.Standing.{is_at_or_below}
use Rattle.native_actions.proofs.Leaving.{none_leaves, holds_next, leaves_here}
use Rattle.native_actions.proofs.cleanupcopy.place_to_leave.Goals.{else-place-left-via-then-place-left+else-is_at_or_below, else-place-left-via-else-place-left}
use Rattle.native_actions.proofs.cleanupcopy.place_to_leave.Goals as goal

pub returns-then-is_at_or_below : goal.returns-then-is_at_or_below
returns-then-is_at_or_below c =
    holds_next c.args.left.now c.requires c.args.path.now c.in-Ok.place c.in-Ok.ensures.bound c.in-Ok.ensures.position
    c.index-left-place.result c.if-place-left.true c.index-left-place.is (sym c.is_at_or_below.ensures ∙ c.if-is_at_or_below.true)

pub returns-else-place-left : goal.returns-else-place-left
returns-else-place-left c =
    leaves_here c.args.left.now c.requires c.args.path.now c.in-Ok.place c.in-Ok.ensures.bound c.in-Ok.ensures.position
    (elim c.else-place-left.branch [
      | else-place-left-via-then-place-left+else-is_at_or_below w ↦ λ below.
          ap (is_at_or_below c.args.path.now) (get_or_default c.args.left.now (c.in-Ok.place + 1) c.args.path.now w.index-left-place.result below ∙ sym w.index-left-place.is)
          ∙ sym w.is_at_or_below.ensures ∙ w.if-is_at_or_below.false
      | else-place-left-via-else-place-left w ↦ λ below. let end = w.if-place-left.false in absurd (omega arith)
    ])

pub returns-in-Err : goal.returns-in-Err
returns-in-Err c = none_leaves c.args.left.now c.requires c.args.path.now c.in-Err.field-0 c.in-Err.ensures.position
