use Rattle.native_actions.proofs.CleanUps.{cleanupcopy_laws, cleaned_target_short}
use Rattle.native_actions.proofs.Effects.{steps_clause, refused_clause, settable_clause}
use Rattle.native_actions.proofs.cleanupcopy.CleanUpCopyRowRow.steps.Goals as goal

pub clean_up_copy-requires-clause-target : goal.clean_up_copy-requires-clause-target
clean_up_copy-requires-clause-target c = cleaned_target_short c.args.shape.now c.args.call.now c.requires.kind c.requires.call c.requires.shape

pub returns-clause-steps : goal.returns-clause-steps
returns-clause-steps c = steps_clause c.args.shape.now c.args.call.now _ (cleanupcopy_laws c.args.shape.now c.args.call.now c.requires.kind c.requires.call c.requires.shape) c.clean_up_copy.result c.clean_up_copy.ensures.steps

pub returns-clause-refused : goal.returns-clause-refused
returns-clause-refused c = refused_clause c.args.shape.now c.args.call.now _ (cleanupcopy_laws c.args.shape.now c.args.call.now c.requires.kind c.requires.call c.requires.shape) c.clean_up_copy.result c.clean_up_copy.ensures.refused

pub returns-clause-settable : goal.returns-clause-settable
returns-clause-settable c = settable_clause c.args.shape.now c.args.call.now _ (cleanupcopy_laws c.args.shape.now c.args.call.now c.requires.kind c.requires.call c.requires.shape) c.clean_up_copy.result c.clean_up_copy.ensures.steps
