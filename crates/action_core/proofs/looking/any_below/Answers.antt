use Rattle.std.proofs.Common.{sym, ◌∙◌, ap, arith}
use Rattle.std.specs.Prelude.{not}
use Rattle.folder_core.specs.Path.{path_eqb}
use Rattle.folder_core.specs.declared.node.Touch.{Touch}
use Rattle.action_core.specs.Standing.{stands_under}
use Rattle.action_core.proofs.Lookups.{any_filter_at, none_filter}
use Rattle.action_core.proofs.looking.any_below.Goals as goal

pub returns-then-ne : goal.returns-then-ne
returns-then-ne c =
    let path = c.args.path.now in
    let is = sym c.touch-item.is in
    sym (any_filter_at (λ (t : Touch). not (path_eqb t.path path)) (stands_under path) c.args.nodes.now c.loop-touch.touch-index c.touch-item.result c.loop-touch-test.true
    (ap (stands_under path) is ∙ sym c.stands_under.ensures ∙ c.if-stands_under.true)
    (ap (λ (t : Touch). not (path_eqb t.path path)) is ∙ sym c.ne.ensures ∙ c.if-ne.true))

pub returns : goal.returns
returns c =
    let path = c.args.path.now in
    sym (none_filter (λ (t : Touch). not (path_eqb t.path path)) (stands_under path) c.args.nodes.now
    (λ k d below. let end = c.loop-touch-test.false in c.loop-touch.invariant k d (omega arith)))
