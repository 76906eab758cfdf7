use Rattle.action_core.specs.Standing.{map_of, under_in}
use Rattle.native_actions.proofs.Copied.{directory_steps}
use Rattle.native_actions.proofs.copy.copy_directory.Goals as goal

pub returns-clause-steps : goal.returns-clause-steps
returns-clause-steps c =
    directory_steps (map_of c.args.shape.now) (under_in c.args.shape.now.nodes c.args.source.now) c.args.source.now c.args.target.now c.in_ok-steps.steps c.in_ok-with_note.field-0
    c.in_ok-check_directory_target.ensures.passed c.in_ok-steps.ensures.passed c.in_ok-steps.ensures.sets c.in_ok-with_note.ensures
