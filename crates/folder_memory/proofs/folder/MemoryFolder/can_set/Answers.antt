use Rattle.std.proofs.Common.{sym, ◌∙◌}
use Rattle.folder_core.specs.Formed.{IsFormed-had}
use Rattle.folder_memory.specs.State.{state_of}
use Rattle.folder_memory.proofs.Standing.{can_set_iff}
use Rattle.folder_memory.proofs.folder.MemoryFolder.can_set.Goals as goal

pub returns-then-has_directory : goal.returns-then-has_directory
returns-then-has_directory c =
    let h = c.args.self.now.history in
    let split = sym (c.items.ensures ∙ c.names.ensures.value) ∙ c.in-Some.ensures.cases.0 in
    can_set_iff h.events.items h.nodes h.stands c.args.path.now c.in-Some.parent.now c.in-Some.field-0-0.now c.has_below.result split (c.has_directory.ensures.0 c.if-has_directory.true) c.has_below.ensures

pub has_directory-requires-clause-formed : goal.has_directory-requires-clause-formed
has_directory-requires-clause-formed c = IsFormed-had (state_of c.args.self.now.history.events.items).now c.args.self.now.formed
