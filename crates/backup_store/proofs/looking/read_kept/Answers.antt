use Rattle.backup_store.proofs.PuttingLemmas.{entry_at}
use Rattle.backup_store.proofs.looking.read_kept.Goals as goal

pub returns-clause-found : goal.returns-clause-found
returns-clause-found g c =
    entry_at (g.F.Folder.told c.args.folder.now) c.args.number.0 c.in_ok-entry_path.field-0 c.in_ok-node.node c.in_ok-entry_in.field-0
    c.in_ok-entry_path.ensures.path c.in_ok-node.ensures.found c.in_ok-entry_in.ensures
