use Rattle.director_plan.proofs.NamedLaws.{named, labelled}
use Rattle.director_plan.proofs.laws.problems_can_be_named.Goals as goal

pub returns-clause-named : goal.returns-clause-named
returns-clause-named c = named

pub returns-clause-labelled : goal.returns-clause-labelled
returns-clause-labelled c = labelled
