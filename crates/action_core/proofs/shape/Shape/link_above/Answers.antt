use Rattle.std.proofs.Common.{take, sym, ◌∙◌, ap, arith}
use Rattle.std.proofs.lemmas.List.{drop_all}
use Rattle.action_core.specs.Standing.{map_of}
use Rattle.action_core.specs.Tests.{link_from, link_above}
use Rattle.action_core.proofs.Links.{link_next, link_here}
use Rattle.action_core.proofs.shape.Shape.link_above.Goals as goal

pub returns-then-is_link-clause-first : goal.returns-then-is_link-clause-first
unfolding link_above
returns-then-is_link-clause-first c =
    sym c.loop-count.invariant.1
    ∙ link_here (map_of c.args.self.now) c.args.names.now c.loop-count.count c.loop-count-test.true (sym c.is_link.ensures ∙ c.if-is_link.true)

pub loop-count-preserved : goal.loop-count-preserved
loop-count-preserved c = (
  let more = c.loop-count-test.true in omega arith,
  link_next (map_of c.args.self.now) c.args.names.now c.loop-count.count c.loop-count-test.true (sym c.is_link.ensures ∙ c.if-is_link.false) ∙ c.loop-count.invariant.1,
)

pub returns-clause-first : goal.returns-clause-first
unfolding link_above
returns-clause-first c =
    let m = map_of c.args.self.now in
    let names = c.args.names.now in
    let k = c.loop-count.count in
    sym c.loop-count.invariant.1 ∙ ap (link_from m (take k names)) (drop_all k names c.loop-count-test.false)
