use Rattle.std.proofs.Common.{rules}
use Rattle.unit_slicer.specs.NameOrder.{number_cmp}
use Rattle.unit_slicer.proofs.OrderLaws.{numbers_rank, sorted_by}
use Rattle.unit_slicer.proofs.name_order.sort_by_name.Goals as goal

pub returns-clause-sorted : goal.returns-clause-sorted
returns-clause-sorted c = sorted_by (number_cmp c.args.catalog.now) _ (numbers_rank c.args.catalog.now) c.sort_unstable_by.ensures.sorted (λ a r q k. search rules)
