use Rattle.std.proofs.Common.{refl}
use Rattle.pb_trail.proofs.ForceLaws.{popped_good, popped_value, popped_among, popped_steps, some_from}
use Rattle.pb_trail.proofs.trail.Trail.take_last_back.Goals as goal

pub clear-requires-clause-from_one : goal.clear-requires-clause-from_one
clear-requires-clause-from_one g c = (popped_among c.args.self.now c.pop.new.self.items c.in-Some.entry c.requires.good c.in-Some.ensures.items).0

pub clear-requires-clause-within : goal.clear-requires-clause-within
clear-requires-clause-within g c = (popped_among c.args.self.now c.pop.new.self.items c.in-Some.entry c.requires.good c.in-Some.ensures.items).1

pub clear-requires-clause-has_value : goal.clear-requires-clause-has_value
clear-requires-clause-has_value g c = some_from _ _ (popped_value c.args.self.now c.pop.new.self.items c.in-Some.entry c.requires.good c.in-Some.ensures.items)

pub returns-clause-good : goal.returns-clause-good
returns-clause-good g c = popped_good c.args.self.now _ c.pop.new.self.items c.in-Some.entry c.requires.good c.in-Some.ensures.items c.clear.ensures.constraints c.clear.ensures.values refl c.pop.ensures.capacity

pub returns-clause-steps : goal.returns-clause-steps
returns-clause-steps g c =
    popped_steps c.args.self.now.kept.constraints c.args.self.now.entries.items c.pop.new.self.items c.in-Some.entry _ _ c.in-Some.ensures.items (c.clear.ensures.steps c.in-Some.entry.lit.positive (popped_value c.args.self.now c.pop.new.self.items c.in-Some.entry c.requires.good c.in-Some.ensures.items))
