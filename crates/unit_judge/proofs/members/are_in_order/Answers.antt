use Rattle.std.proofs.Common.{rules}
use Rattle.std.proofs.lemmas.List.Sorted.{answers_always}
use Rattle.std.specs.Ordering.{is_lt}
use Rattle.unit_catalog.specs.Order.{by_id}
use Rattle.unit_judge.proofs.InOrder.{in_order_answer}
use Rattle.unit_judge.proofs.members.are_in_order.Goals as goal

pub returns : goal.returns
returns c = in_order_answer _ _ (c.is_sorted_by.ensures.cases (λ u v. is_lt (by_id u.name v.name)) (answers_always _ _ _ (λ f a r g h. search rules)))
