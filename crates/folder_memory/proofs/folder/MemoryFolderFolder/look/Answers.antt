use Rattle.std.proofs.Common.{sym, ◌∙◌, subst}
use Rattle.std.specs.Option.{IfSome}
use Rattle.folder_core.specs.Formed.{IsFormed-had}
use Rattle.folder_core.specs.Node.{IsNode, IsSmallAt}
use Rattle.folder_core.proofs.Maps.{small_there}
use Rattle.folder_memory.specs.State.{state_of}
use Rattle.folder_memory.proofs.Standing.{node_there}
use Rattle.folder_memory.proofs.folder.MemoryFolderFolder.look.Goals as goal

pub returns-clause-node : goal.returns-clause-node
returns-clause-node c =
    let m = (state_of c.args.self.now.history.events.items).now in
    subst (λ n. IfSome n IsNode) (c.node.ensures ∙ sym c.in_ok-copied.ensures) (node_there m c.args.path.now (IsFormed-had m c.args.self.now.formed))

pub returns-clause-small : goal.returns-clause-small
returns-clause-small c =
    let m = (state_of c.args.self.now.history.events.items).now in
    subst (λ n. IfSome n (IsSmallAt c.args.path.now)) (c.node.ensures ∙ sym c.in_ok-copied.ensures) (small_there m c.args.path.now (IsFormed-had m c.args.self.now.formed))
