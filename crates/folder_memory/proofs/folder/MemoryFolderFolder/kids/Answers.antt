use Rattle.std.proofs.Common.{◌∙◌}
use Rattle.folder_core.specs.Formed.{IsFormed-had}
use Rattle.folder_memory.specs.State.{state_of}
use Rattle.folder_memory.proofs.Standing.{kids_told}
use Rattle.folder_memory.proofs.folder.MemoryFolderFolder.kids.Goals as goal

pub returns-in_ok-kids_of-clause-kids : goal.returns-in_ok-kids_of-clause-kids
returns-in_ok-kids_of-clause-kids c =
    let h = c.args.self.now.history in
    kids_told h.events.items h.nodes h.stands c.args.path.now (IsFormed-had (state_of h.events.items).now c.args.self.now.formed) c.in_ok-kids_of.field-0 (c.node.ensures ∙ c.is_directory.ensures.0 c.if-is_directory.true) c.in_ok-kids_of.ensures.names
