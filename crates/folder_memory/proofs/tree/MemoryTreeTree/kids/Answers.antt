use Rattle.folder_memory.proofs.Files.{kids_told}
use Rattle.folder_memory.proofs.tree.MemoryTreeTree.kids.Goals as goal

pub returns-clause-kids : goal.returns-clause-kids
returns-clause-kids c = kids_told c.args.self.now.files c.args.path.now c.in_ok-kids_of.field-0 c.in_ok-kids_of.ensures.names
