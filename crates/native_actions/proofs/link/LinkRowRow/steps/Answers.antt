use Rattle.native_actions.proofs.Effects.{steps_clause, refused_clause, settable_clause}
use Rattle.native_actions.proofs.Links.{ln_laws}
use Rattle.native_actions.proofs.link.LinkRowRow.steps.Goals as goal

pub returns-clause-steps : goal.returns-clause-steps
returns-clause-steps c = steps_clause c.args.shape.now c.args.call.now _ (ln_laws c.args.shape.now c.args.call.now c.requires.kind c.requires.call c.requires.shape) c.ln.result c.ln.ensures.steps

pub returns-clause-refused : goal.returns-clause-refused
returns-clause-refused c = refused_clause c.args.shape.now c.args.call.now _ (ln_laws c.args.shape.now c.args.call.now c.requires.kind c.requires.call c.requires.shape) c.ln.result c.ln.ensures.refused

pub returns-clause-settable : goal.returns-clause-settable
returns-clause-settable c = settable_clause c.args.shape.now c.args.call.now _ (ln_laws c.args.shape.now c.args.call.now c.requires.kind c.requires.call c.requires.shape) c.ln.result c.ln.ensures.steps
