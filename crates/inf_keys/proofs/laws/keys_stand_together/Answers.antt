use Rattle.inf_keys.specs.Order.{key_total}
use Rattle.inf_keys.proofs.OrderLemmas.{exact, owner_together, row_together}
use Rattle.inf_keys.proofs.laws.keys_stand_together.Goals as goal

pub returns-clause-total : goal.returns-clause-total
returns-clause-total c = key_total

pub returns-clause-exact : goal.returns-clause-exact
returns-clause-exact c = exact

pub returns-clause-owner : goal.returns-clause-owner
returns-clause-owner c = owner_together

pub returns-clause-row : goal.returns-clause-row
returns-clause-row c = row_together
