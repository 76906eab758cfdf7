use Rattle.std.proofs.Common.{rules}
use Rattle.std.proofs.lemmas.Fn.{always_returns_same}
use Rattle.unit_catalog.specs.Order.{by_id}
use Rattle.unit_judge.proofs.InOrder.{searched}
use Rattle.unit_judge.proofs.members.place_of.Goals as goal

pub returns : goal.returns
returns c =
    let facts = c.binary_search_by.ensures in
    let by_name = facts.position (λ u. by_id u.name c.args.name.now) (always_returns_same _ _ _ (λ a r f called. (search rules, search rules))) in
    rw c.ok.ensures.value (searched c.args.units.now c.args.name.now _ c.requires facts.bound by_name)
