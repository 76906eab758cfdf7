use Rattle.std.proofs.Common.{◌≡◌, ◌<◌, length, get_or, ap, arith}
use Rattle.std.proofs.lemmas.List.{length-replicate}
use Rattle.pb_core.specs.AtLeast.{at_least}
use Rattle.pb_core.specs.Normal.{IsNormalOver}
use Rattle.pb_core.proofs.KeptChanges.{keepable_normal}
use Rattle.pb_core.proofs.kept.Kept.new.Goals as goal

pub append-requires-clause-keepable : goal.append-requires-clause-keepable
append-requires-clause-keepable c =
    let within : c.loop-constraint.constraint-index < length c.args.problem.now.constraints = omega (arith, ap length c.items-constraints.ensures) in
    let item : c.constraint-item.result ≡ get_or c.args.problem.now.constraints c.loop-constraint.constraint-index c.constraint-item.result = rw c.items-constraints.ensures at c.constraint-item.is in
    let normal : IsNormalOver (length c.args.problem.now.labels) (at_least c.constraint-item.result) = rw item (c.requires.normal c.loop-constraint.constraint-index c.constraint-item.result within) in
    rw (c.loop-constraint.invariant.1, length-replicate, c.in_ok-copy.ensures) (keepable_normal (length c.args.problem.now.labels) (at_least c.constraint-item.result) normal)
