-- From what a row says of the shape to what it says of each map that the shape stands for.
use Rattle.std.proofs.Common.{◌≡◌, ◌≢◌, ℕ, List, Result, Ok, Err, ◌∙◌, ap}
use Rattle.std.specs.Result.{IfOk, IfErr}
use Rattle.folder_core.specs.Folder.{Map, IsFormed}
use Rattle.instr_parser.specs.declared.call.Call.{Call}
use Rattle.action_core.specs.Effect.{HasEffect, StandsFor, row}
use Rattle.action_core.specs.Standing.{IsShape, map_of, site_of, under_in}
use Rattle.action_core.specs.Steps.{CanPerform}
use Rattle.action_core.specs.declared.fault.ActionFault.{ActionFault}
use Rattle.action_core.specs.declared.fault.ActionFault.TheVariants.{NoMemory}
use Rattle.action_core.specs.declared.shape.Shape.{Shape}
use Rattle.action_core.specs.declared.step.Step.{Step}
use Rattle.native_actions.proofs.Gathered.{is_under}

abbrev pub Outcome : Type 0
Outcome = Result (List Step) ActionFault

pub has_effect : (kind : ℕ) (call : Call) (shape : Shape) (m : Map) (outcome : Outcome)
    → call.kind.0 ≡ kind → IsShape shape → StandsFor shape call m
    → row kind (site_of shape) call m (under_in shape.nodes) shape.noted ≡ row kind (site_of shape) call (map_of shape) (under_in shape.nodes) shape.noted
    → row kind (site_of shape) call (map_of shape) (under_in shape.nodes) shape.noted ≡ outcome
    → HasEffect (site_of shape) call m shape.noted outcome
has_effect kind call shape m outcome is formed stands same answers = record {
  under = under_in shape.nodes;
  stands = λ place has. is_under shape.nodes formed.rising m place (stands.near place has);
  answers = ap (λ (k : ℕ). row k (site_of shape) call m (under_in shape.nodes) shape.noted) is ∙ same ∙ answers;
}

-- The answer of a row is its effect on each map, and its steps may be done there.
pub record Laws (shape : Shape) (call : Call) (answer : Outcome) : Type 0 where
  pub effect : (outcome : Outcome) → answer ≡ outcome → (m : Map) → StandsFor shape call m → HasEffect (site_of shape) call m shape.noted outcome
  pub settable : (steps : List Step) → answer ≡ Ok steps → (m : Map) → StandsFor shape call m → IsFormed m → CanPerform shape.install m steps

module _ (shape : Shape) (call : Call) (answer : Outcome) (laws : Laws shape call answer) where
  pub steps_clause : (result : Outcome) → IfOk result (λ steps. answer ≡ Ok steps) → IfOk result (λ steps. (m : Map) → StandsFor shape call m → HasEffect (site_of shape) call m shape.noted (Ok steps))
  steps_clause (Ok steps) is = laws.effect (Ok steps) is
  steps_clause (Err fault) is = tt

  pub refused_clause : (result : Outcome) → IfErr result (λ fault. fault ≢ NoMemory → answer ≡ Err fault) → IfErr result (λ fault. fault ≢ NoMemory → (m : Map) → StandsFor shape call m → HasEffect (site_of shape) call m shape.noted (Err fault))
  refused_clause (Ok steps) is = tt
  refused_clause (Err fault) is = λ other. laws.effect (Err fault) (is other)

  pub settable_clause : (result : Outcome) → IfOk result (λ steps. answer ≡ Ok steps) → IfOk result (λ steps. (m : Map) → StandsFor shape call m → IsFormed m → CanPerform shape.install m steps)
  settable_clause (Ok steps) is = laws.settable steps is
  settable_clause (Err fault) is = tt
