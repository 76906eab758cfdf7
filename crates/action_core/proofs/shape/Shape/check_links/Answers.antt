use Rattle.std.proofs.Common.{◌≡◌, Some, None, List, ℕ, take, sym, ◌∙◌, ap, subst}
use Rattle.action_core.specs.Standing.{map_of}
use Rattle.action_core.specs.Tests.{link_above}
use Rattle.action_core.specs.declared.fault.ActionFault.TheVariants.{ThroughLink}
use Rattle.action_core.proofs.Tested.{through_some, through_none}
use Rattle.action_core.proofs.shape.Shape.check_links.Goals as goal

pub returns-in_ok-front-in-Some-clause-refused : goal.returns-in_ok-front-in-Some-clause-refused
returns-in_ok-front-in-Some-clause-refused c = λ other.
    through_some (map_of c.args.self.now) c.args.path.now (take c.in-Some.count c.args.path.now) (subst (λ (p : List (List ℕ)). link_above (map_of c.args.self.now) p ≡ Some (take c.in-Some.count p)) (c.items.ensures ∙ c.names.ensures.value) c.in-Some.ensures.first)
    ∙ ap (λ (p : List (List ℕ)). Some (ThroughLink p)) (sym c.in_ok-front-in-Some.ensures)

pub returns-in-None-clause-passed : goal.returns-in-None-clause-passed
returns-in-None-clause-passed c = through_none (map_of c.args.self.now) c.args.path.now (subst (λ (p : List (List ℕ)). link_above (map_of c.args.self.now) p ≡ None) (c.items.ensures ∙ c.names.ensures.value) c.in-None.ensures.first)
