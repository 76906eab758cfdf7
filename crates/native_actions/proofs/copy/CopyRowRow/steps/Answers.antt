use Rattle.native_actions.proofs.Copies.{copy_laws, copy_source_short, copy_target_short}
use Rattle.native_actions.proofs.Effects.{steps_clause, refused_clause, settable_clause}
use Rattle.native_actions.proofs.copy.CopyRowRow.steps.Goals as goal

pub copy-requires-clause-source : goal.copy-requires-clause-source
copy-requires-clause-source c = copy_source_short c.args.shape.now c.args.call.now c.requires.kind c.requires.call c.requires.shape

pub copy-requires-clause-target : goal.copy-requires-clause-target
copy-requires-clause-target c = copy_target_short c.args.shape.now c.args.call.now c.requires.kind c.requires.call c.requires.shape

pub returns-clause-steps : goal.returns-clause-steps
returns-clause-steps c = steps_clause c.args.shape.now c.args.call.now _ (copy_laws c.args.shape.now c.args.call.now c.requires.kind c.requires.call c.requires.shape) c.copy.result c.copy.ensures.steps

pub returns-clause-refused : goal.returns-clause-refused
returns-clause-refused c = refused_clause c.args.shape.now c.args.call.now _ (copy_laws c.args.shape.now c.args.call.now c.requires.kind c.requires.call c.requires.shape) c.copy.result c.copy.ensures.refused

pub returns-clause-settable : goal.returns-clause-settable
returns-clause-settable c = settable_clause c.args.shape.now c.args.call.now _ (copy_laws c.args.shape.now c.args.call.now c.requires.kind c.requires.call c.requires.shape) c.copy.result c.copy.ensures.steps
