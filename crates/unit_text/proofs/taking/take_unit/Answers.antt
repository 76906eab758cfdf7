use Rattle.unit_text.proofs.Firsts.{none_there, not_named_there}
use Rattle.unit_text.proofs.taking.take_unit.Goals as goal

pub returns-in_default-clause-refused : goal.returns-in_default-clause-refused
returns-in_default-clause-refused c = none_there c.args.lines.now c.in_default.len_below

pub returns-in-None-clause-refused : goal.returns-in-None-clause-refused
returns-in-None-clause-refused c = not_named_there c.args.lines.now _ c.in-len1-up.len_at_least (rw c.in-None.is at c.in_ok-draft.ensures)
