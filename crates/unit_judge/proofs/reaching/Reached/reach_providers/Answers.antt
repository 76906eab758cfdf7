use Rattle.unit_judge.proofs.reaching.Reached.reach_providers.Goals as goal

pub returns-clause-has : goal.returns-clause-has
returns-clause-has c = λ n within leads. c.in_ok-reach_all.ensures.has n within (rw c.items.ensures (c.in_ok-providers.ensures.every n leads.1))
