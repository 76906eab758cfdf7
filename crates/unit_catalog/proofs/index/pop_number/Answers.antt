use Rattle.std.proofs.Common.{◌+◌}
use Rattle.unit_catalog.proofs.Numbers.{rises_front}
use Rattle.unit_catalog.proofs.index.pop_number.Goals as goal

pub returns-then-eq-clause-rising : goal.returns-then-eq-clause-rising
returns-then-eq-clause-rising c = rw c.pop.ensures.rest (rises_front (c.args.number + 1) _ c.args.numbers.now.items c.requires)
