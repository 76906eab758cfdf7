use Rattle.std.proofs.Common.{sym, ◌∙◌}
use Rattle.folder_memory.proofs.Standing.{stands_at, at_root}
use Rattle.folder_memory.proofs.history.History.node.Goals as goal

pub returns : goal.returns
returns c =
    let h = c.args.self.now in
    stands_at h.events.items h.nodes h.stands c.args.path.now ∙ at_root h.root h.nodes h.root_is c.args.path.now ∙ sym c.node_at.ensures
