use Rattle.std.proofs.Common.{List, ℕ, Ok, ◌∙◌, sym, ap}
use Rattle.action_core.specs.Standing.{map_of, site_of}
use Rattle.action_core.specs.Tests.{is_dir}
use Rattle.action_core.specs.declared.step.Step.{Step}
use Rattle.native_actions.proofs.Effects.{Outcome}
use Rattle.native_actions.proofs.Deep.{mkdir_stands}
use Rattle.native_actions.proofs.mkdir.mkdir_at.Goals as goal

pub returns-then-is_directory-clause-steps : goal.returns-then-is_directory-clause-steps
returns-then-is_directory-clause-steps c =
    mkdir_stands (site_of c.args.shape.now) (map_of c.args.shape.now) c.args.path c.names.ensures.path.short
    (ap (λ (p : List (List ℕ)). is_dir (map_of c.args.shape.now p)) (sym (c.items.ensures ∙ c.names.ensures.value)) ∙ sym c.is_directory.ensures ∙ c.if-is_directory.true)
    ∙ ap (λ (steps : List Step). let outcome : Outcome = Ok steps in outcome) (sym c.new.ensures)
